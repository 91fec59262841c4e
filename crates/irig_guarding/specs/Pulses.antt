-- When the pulses of the frames of a state stay where they were, by a recording as it was opened.
-- This project's own.
use Rattle.std.specs.Prelude.{◌≡◌, ◌<◌, ◌⊎◌, ◌-◌, ℕ, List, [], ◌∷◌, Option, Some, None, drop, get_or}
use Rattle.std.specs.Prelude.{Result, Ok, Err}
use Rattle.irig_edit.specs.State.State.{State}
use Rattle.irig_safety.specs.Placed.{ArePlaced}
use Rattle.irig_safety.specs.{Faults.NextOrLater, Original.OriginalView, Original.near_by}
use Rattle.irig_safety.specs.{Rises.KeepsRises, Safety.behind, declared.fault.Fault.Fault}
use Rattle.irig_safety.specs.declared.fault.Fault.TheVariants.{Lost, Misplaced, Moved}
use Rattle.irig_safety.specs.declared.shown.Shown.{Shown}
use Rattle.irig_safety.specs.declared.witnesses.Witnesses.{Witnesses}
use Rattle.irig_guarding.specs.{declared.seen.Seen.Seen}

-- the pulses of a frame rise as those of the former one with the first of these markers
abbrev pub StandsAs : OriginalView → State → List ℕ → Seen → Type 0
StandsAs o s markers y = KeepsRises o.pulses (get_or markers 0 0) s.pulses y.marker

-- the pulses of a frame that was not fine are where they may be, next to these frames of the
-- recording
abbrev pub Stands : OriginalView → State → Witnesses → Seen → Type 0
Stands o s w y = ArePlaced s.format o.pulses s.pulses y.marker w y.shown

-- so do those of each frame, in the order of the rises: of a former one as they did. The two frames
-- before the first of the former are known
abbrev pub StandFrom : OriginalView → State → List ℕ → Option Shown → Option Shown → List Shown
    → List Seen → Type 0
StandFrom o s ms a2 a [] [] = Unit {0}
StandFrom o s ms a2 a (x ∷ old) [] = Unit {0}
StandFrom o s ms a2 a [] (y ∷ new) =
    Stands o s (near_by a2 a []) y × StandFrom o s ms a2 a [] new
StandFrom o s ms a2 a (x ∷ old) (y ∷ new) =
    ((x.rise ≡ y.shown.rise) × StandsAs o s ms y × StandFrom o s (drop 1 ms) a (Some x) old new)
    ⊎ ((y.shown.rise < x.rise) × Stands o s (near_by a2 a (x ∷ old)) y
    × StandFrom o s ms a2 a (x ∷ old) new)

-- the first frame of which that does not hold
abbrev pub StrayFrom : OriginalView → State → List ℕ → Option Shown → Option Shown → List Shown
    → List Seen → Fault → Type 0
StrayFrom o s ms a2 a [] [] why = ⊥
StrayFrom o s ms a2 a (x ∷ old) [] why = ⊥
StrayFrom o s ms a2 a [] (y ∷ new) why =
    NextOrLater (Stands o s (near_by a2 a []) y) (Misplaced y.shown) why
    (StrayFrom o s ms a2 a [] new why)
StrayFrom o s ms a2 a (x ∷ old) (y ∷ new) why =
    ((x.rise ≡ y.shown.rise) × NextOrLater (StandsAs o s ms y) (Moved y.shown) why
    (StrayFrom o s (drop 1 ms) a (Some x) old new why))
    ⊎ (((y.shown.rise < x.rise) × NextOrLater (Stands o s (near_by a2 a (x ∷ old)) y)
    (Misplaced y.shown) why (StrayFrom o s ms a2 a (x ∷ old) new why))
    ⊎ ((x.rise < y.shown.rise) × (why ≡ Lost x)))

-- it holds of each, or this is the first fault
abbrev pub PulsesFrom : OriginalView → State → List ℕ → Option Shown → Option Shown → List Shown
    → List Seen → Option Fault → Type 0
PulsesFrom o s ms a2 a old new None = StandFrom o s ms a2 a old new
PulsesFrom o s ms a2 a old new (Some why) = StrayFrom o s ms a2 a old new why

-- so from a place of the former on
abbrev pub PulsesAt : OriginalView → State → ℕ → List Seen → Option Fault → Type 0
PulsesAt o s k new found = PulsesFrom o s (drop k o.markers) (behind (k - 1) o.frames)
    (behind k o.frames) (drop k o.frames) new found

-- what was found of one frame that was not fine, and how many of the former are passed then
abbrev pub Comes : OriginalView → State → Witnesses → Seen → ℕ → Result ℕ Fault → Type 0
Comes o s w y passed (Ok place) = (place ≡ passed) × Stands o s w y
Comes o s w y passed (Err why) = (Stands o s w y → ⊥) × (why ≡ Misplaced y.shown)
