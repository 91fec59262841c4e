-- When the control functions of the frames of a state are borne out, by a recording as it was
-- opened. This project's own.
use Rattle.std.specs.Prelude.{◌≡◌, ◌<◌, ◌⊎◌, ◌-◌, ℕ, List, [], ◌∷◌, Option, Some, None, Result, Ok, Err}
use Rattle.std.specs.Prelude.{drop}
use Rattle.irig_edit.specs.State.State.{State}
use Rattle.irig_safety.specs.{Controls.AreFunctionsBorne, Faults.NextOrLater}
use Rattle.irig_safety.specs.Original.{OriginalView, near_by}
use Rattle.irig_safety.specs.{Safety.behind, declared.fault.Fault.Fault}
use Rattle.irig_safety.specs.declared.fault.Fault.TheVariants.{Lost, Unrecorded}
use Rattle.irig_safety.specs.declared.shown.Shown.{Shown}
use Rattle.irig_safety.specs.declared.witnesses.Witnesses.{Witnesses}
use Rattle.irig_guarding.specs.{Reading.seen_frames}
use Rattle.irig_guarding.specs.declared.seen.Seen.{Seen}

-- the control functions of a frame are borne out, next to these frames of the recording
abbrev pub IsBorne : OriginalView → State → Witnesses → Seen → Type 0
IsBorne o s w y = AreFunctionsBorne s.format o s.pulses y.marker w y.shown

-- a frame is the former one at its time, or they are borne out
abbrev pub IsAs : OriginalView → State → Option Shown → Option Shown → Shown → List Shown → Seen
    → Type 0
IsAs o s a2 a x old y = (x ≡ y.shown) ⊎ IsBorne o s (near_by a2 a old) y

-- so is each frame, in the order of the rises. The two frames before the first of the former are
-- known
abbrev pub AreBorneFrom : OriginalView → State → Option Shown → Option Shown → List Shown
    → List Seen → Type 0
AreBorneFrom o s a2 a [] [] = Unit {0}
AreBorneFrom o s a2 a (x ∷ old) [] = Unit {0}
AreBorneFrom o s a2 a [] (y ∷ new) =
    IsBorne o s (near_by a2 a []) y × AreBorneFrom o s a2 a [] new
AreBorneFrom o s a2 a (x ∷ old) (y ∷ new) =
    ((x.rise ≡ y.shown.rise) × IsAs o s a2 a x old y × AreBorneFrom o s a (Some x) old new)
    ⊎ ((y.shown.rise < x.rise) × IsBorne o s (near_by a2 a (x ∷ old)) y
    × AreBorneFrom o s a2 a (x ∷ old) new)

-- the first frame of which that does not hold
abbrev pub IsUnborneFrom : OriginalView → State → Option Shown → Option Shown → List Shown
    → List Seen → Fault → Type 0
IsUnborneFrom o s a2 a [] [] why = ⊥
IsUnborneFrom o s a2 a (x ∷ old) [] why = ⊥
IsUnborneFrom o s a2 a [] (y ∷ new) why =
    NextOrLater (IsBorne o s (near_by a2 a []) y) (Unrecorded y.shown) why
    (IsUnborneFrom o s a2 a [] new why)
IsUnborneFrom o s a2 a (x ∷ old) (y ∷ new) why =
    ((x.rise ≡ y.shown.rise) × NextOrLater (IsAs o s a2 a x old y) (Unrecorded y.shown) why
    (IsUnborneFrom o s a (Some x) old new why))
    ⊎ (((y.shown.rise < x.rise) × NextOrLater (IsBorne o s (near_by a2 a (x ∷ old)) y)
    (Unrecorded y.shown) why (IsUnborneFrom o s a2 a (x ∷ old) new why))
    ⊎ ((x.rise < y.shown.rise) × (why ≡ Lost x)))

-- it holds of each, or this is the first fault
abbrev pub ControlsFrom : OriginalView → State → Option Shown → Option Shown → List Shown
    → List Seen → Option Fault → Type 0
ControlsFrom o s a2 a old new None = AreBorneFrom o s a2 a old new
ControlsFrom o s a2 a old new (Some why) = IsUnborneFrom o s a2 a old new why

-- so from a place of the former on
abbrev pub ControlsAt : OriginalView → State → ℕ → List Seen → Option Fault → Type 0
ControlsAt o s k new found =
    ControlsFrom o s (behind (k - 1) o.frames) (behind k o.frames) (drop k o.frames) new found

-- what was found of one frame, and how many of the former are passed then
abbrev pub Judges : OriginalView → State → Witnesses → Seen → ℕ → Result ℕ Fault → Type 0
Judges o s w y next (Ok place) = (place ≡ next) × IsBorne o s w y
Judges o s w y next (Err why) = (IsBorne o s w y → ⊥) × (why ≡ Unrecorded y.shown)

-- the control functions of all frames are borne out. If no frame of the recording reads well, they
-- are not judged
abbrev pub AreBorneBy : List Shown → OriginalView → State → Type 0
AreBorneBy [] o s = Unit {0}
AreBorneBy (x ∷ frames) o s = AreBorneFrom o s None None (x ∷ frames) (seen_frames s)

-- the first frame of which they are not
abbrev pub IsUnborneBy : List Shown → OriginalView → State → Fault → Type 0
IsUnborneBy [] o s why = ⊥
IsUnborneBy (x ∷ frames) o s why = IsUnborneFrom o s None None (x ∷ frames) (seen_frames s) why
