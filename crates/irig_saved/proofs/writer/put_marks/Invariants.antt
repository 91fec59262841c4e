use Rattle.std.proofs.Common.{◌≡◌, ◌+◌, ◌++◌, drop}
use Rattle.irig_saved.specs.{Lines.text_of, SavedText.mark_lines}
use Rattle.irig_saved.proofs.writer.put_marks.Given as goal

abbrev pub invariant-loop-letter : goal.invariant-loop-letter
invariant-loop-letter l = l.text.items ++ text_of (mark_lines (97 + l.letter) (drop l.letter l.marks)) ≡ l.fn.text.items ++ text_of (mark_lines 97 l.marks)
