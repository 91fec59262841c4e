use Rattle.std.proofs.Common.{length, reverse}
use Rattle.irig_edit.proofs.OpenedLemmas.TakenGroups.{MadeSoFar}
use Rattle.irig_edit.proofs.opened.walk.Walk.make_all.Given as goal

-- the single changes made so far, and those that are left
abbrev pub invariant-loop-single : goal.invariant-loop-single
invariant-loop-single l = MadeSoFar l.fn.self l.fn.singles.items l.self (reverse l.singles.items)

abbrev pub decreases-loop-single : goal.decreases-loop-single
decreases-loop-single l = length l.singles.items
