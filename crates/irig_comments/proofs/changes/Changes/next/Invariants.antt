use Rattle.std.proofs.Common.{◌≡◌, filter, length}
use Rattle.irig_comments.specs.Sides.{differs}
use Rattle.irig_comments.proofs.changes.Changes.next.Given as goal

-- those that do not differ are past
abbrev pub invariant-loop-sides : goal.invariant-loop-sides
invariant-loop-sides l = filter differs l.self-inside.sides ≡ filter differs l.initial.self-inside.sides

abbrev pub decreases-loop-sides : goal.decreases-loop-sides
decreases-loop-sides l = length l.self-inside.sides
