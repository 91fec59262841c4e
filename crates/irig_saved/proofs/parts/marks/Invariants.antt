use Rattle.std.proofs.Common.{◌≡◌, length, take}
use Rattle.irig_saved.specs.Leading.{Leads}
use Rattle.irig_saved.proofs.parts.marks.Given as goal

-- the marks up to the letter lead the text up to the rest
abbrev pub invariant-loop-letter : goal.invariant-loop-letter
invariant-loop-letter l = (length l.marks ≡ 26) × Leads 97 (take l.letter l.marks) l.text l.rest
