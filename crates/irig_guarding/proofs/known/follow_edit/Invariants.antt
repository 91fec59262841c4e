use Rattle.irig_guarding.proofs.KnownLemmas.{AreFollowed}
use Rattle.irig_guarding.proofs.known.follow_edit.Given as goal

abbrev pub invariant-loop-index : goal.invariant-loop-index
invariant-loop-index l = AreFollowed l.changed l.count_before l.count_after l.fn.known_markers.items l.known_markers.items l.index
