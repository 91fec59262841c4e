use Rattle.irig_edit.proofs.StateLemmas.MovedMarks.{FirstMayMove}
use Rattle.irig_edit.proofs.state.marks.all_may_move.Given as goal

abbrev pub invariant-loop-letter : goal.invariant-loop-letter
invariant-loop-letter l = FirstMayMove l.micros l.by l.letter l.letters l.marks
