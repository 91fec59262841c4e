use Rattle.std.proofs.Common.{◌≡◌, ◌+◌, drop, length}
use Rattle.irig_saved.specs.SavedText.{singles_lines}
use Rattle.irig_saved.proofs.singles.Singles.lines.Given as goal

abbrev pub invariant-loop-single : goal.invariant-loop-single
invariant-loop-single l = l.lines + length (singles_lines (drop l.single-index l.single-items)) ≡ length (singles_lines l.single-items)
