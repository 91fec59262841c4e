use Rattle.std.proofs.Common.{◌≡◌}
use Rattle.irig_edit.proofs.StateLemmas.MovedMarks.{made_first, stands_now}
use Rattle.irig_edit.proofs.state.marks.letters_from.Given as goal

abbrev pub invariant-loop-letter : goal.invariant-loop-letter
invariant-loop-letter l = l.letters ≡ made_first (stands_now l.low l.high) l.letter l.marks l.initial.letters
