-- What is left of the lines of a change while they are given in parts. This project's own.
use Rattle.std.specs.Prelude.{ℕ, List, [], ◌∷◌, ◌++◌, Option, Some, None, drop}
use Rattle.std.specs.Borrow.{Bor}
use Rattle.irig_saved.specs.declared.single.Single.{Single}
use Rattle.irig_saved.specs.{ChangeWords.single_line, Lines.text_of, SavedText.pulse_lines}
use Rattle.irig_recording.specs.declared.pulse.Pulse.{Pulse}

-- the first line of a change; none if there is no change
abbrev pub first_left : Option (Bor Single) → List ℕ
first_left None = []
first_left (Some single) = single_line single.now ++ 10 ∷ []

-- the lines of a splice's pulses from a number on; none if there is no splice
abbrev pub pulses_left : Option (Bor (List Pulse)) → ℕ → List ℕ
pulses_left None next = []
pulses_left (Some pulses) next = text_of (pulse_lines (drop next pulses.now))
