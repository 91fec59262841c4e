-- Recorded pulses that were in step are still there, or others are in their places. This project's
-- own.
use Rattle.std.specs.Prelude.{◌≡◌, ℕ, true, List, [], ◌∷◌}
use Rattle.std.specs.List.{AllByRecursion}
use Rattle.irig_edit.specs.State.State.{State}
use Rattle.irig_safety.specs.{Faults.NextOrLater, InStep.has_place, Original.OriginalView}
use Rattle.irig_safety.specs.declared.fault.Fault.{Fault}
use Rattle.irig_safety.specs.declared.fault.Fault.TheVariants.{Removed}

-- a pulse of a state takes the place of one that rose at this time
abbrev pub HasPlace : State → ℕ → Type 0
HasPlace s t = has_place s.format s.pulses t ≡ true

-- so of each of these times
abbrev pub AreInPlace : State → List ℕ → Type 0
AreInPlace s times = AllByRecursion (HasPlace s) times

-- the first of which that does not hold
abbrev pub GoneFrom : State → List ℕ → Fault → Type 0
GoneFrom s [] why = ⊥
GoneFrom s (t ∷ times) why = NextOrLater (HasPlace s t) (Removed t) why (GoneFrom s times why)

-- so of each loose pulse of the recording
abbrev pub StepsStay : OriginalView → State → Type 0
StepsStay o s = AreInPlace s o.loose

-- the first loose pulse that is gone
abbrev pub IsGoneBy : OriginalView → State → Fault → Type 0
IsGoneBy o s why = GoneFrom s o.loose why
