use Rattle.std.proofs.Common.{arith}
use Rattle.irig_guarding.proofs.KnownLemmas.{known_after}
use Rattle.irig_guarding.proofs.known.follow_edit.Goals as goal

pub returns : goal.returns
returns c = λ o ps qs change before after known.
    known_after o ps qs c.args.changed c.args.count_before c.args.count_after c.args.known_markers.now.items c.loop-index.known_markers.items c.loop-index.index
    change before after
    (omega (arith, c.loop-index-test.false, c.len-index-end.ensures, c.loop-index.invariant.long)) c.loop-index.invariant known
