use Rattle.std.proofs.Common.{◌≡◌}
use Rattle.irig_edit.specs.State.Marks.{moved_if}
use Rattle.irig_edit.proofs.StateLemmas.MovedMarks.{made_first}
use Rattle.irig_edit.proofs.state.marks.move_marks.Given as goal

abbrev pub invariant-loop-letter : goal.invariant-loop-letter
invariant-loop-letter l = l.marks ≡ made_first (moved_if l.by) l.letter l.letters l.initial.marks
