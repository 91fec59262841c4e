-- That there is a frame to go by. This project's own.
use Rattle.std.specs.Prelude.{◌≡◌, Bool, true, false, List, [], ◌∷◌}
use Rattle.irig_edit.specs.State.State.{State}
use Rattle.irig_safety.specs.declared.{fault.Fault.Fault, shown.Shown.Shown}
use Rattle.irig_safety.specs.declared.fault.Fault.TheVariants.{Unjudged}
use Rattle.irig_guarding.specs.Reading.{fine_frames}

-- a frame of the recording reads well, or one does now
abbrev pub is_judged : List Shown → List Shown → Bool
is_judged [] [] = false
is_judged [] (y ∷ new) = true
is_judged (x ∷ old) new = true

-- so of a recording that was opened as a state
abbrev pub is_judged_by : State → State → Bool
is_judged_by opened s = is_judged (fine_frames opened) (fine_frames s)

abbrev pub IsJudged : List Shown → List Shown → Type 0
IsJudged old new = is_judged old new ≡ true

-- none does
abbrev pub IsUnjudged : List Shown → List Shown → Fault → Type 0
IsUnjudged old new why = (is_judged old new ≡ false) × (why ≡ Unjudged)
