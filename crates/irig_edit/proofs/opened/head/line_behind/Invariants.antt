use Rattle.std.proofs.Common.{◌≡◌, ◌+◌, ◌≤◌, length, drop}
use Rattle.irig_saved.specs.SavedText.{mark_lines}
use Rattle.irig_edit.specs.Opened.Opened.{mark_beyond}
use Rattle.irig_edit.proofs.opened.head.line_behind.Given as goal

-- those so far have lines, and none is beyond
abbrev pub invariant-loop-letter : goal.invariant-loop-letter
invariant-loop-letter l =
    (mark_beyond l.fn.micros 4 l.fn.marks ≡ mark_beyond l.fn.micros l.line (drop l.letter l.fn.marks))
    × ((4 + length (mark_lines 97 l.fn.marks) ≡ l.line + length (mark_lines (97 + l.letter) (drop l.letter l.fn.marks)))
    × (l.line ≤ 4 + l.letter))
