-- How many frames have a control function that is not in the recording. This project's own.
use Rattle.std.specs.Prelude.{◌≡◌, ◌<◌, ◌⊎◌, ◌+◌, ℕ, suc, Bool, true, false, List, []}
use Rattle.std.specs.Prelude.{◌∷◌, MatchOption, slice_get}
use Rattle.irig_codes.specs.Format.{control_count_of}
use Rattle.irig_edit.specs.State.State.{State}
use Rattle.irig_safety.specs.{Functions.function_element, Original.IsRecorded, Original.OriginalView}
use Rattle.irig_safety.specs.declared.shown.Shown.{Shown}
use Rattle.irig_guarding.specs.{Reading.seen_frames, declared.seen.Seen.Seen}

-- a control function of a frame is recorded at its place
abbrev pub HasFunction : OriginalView → State → Seen → ℕ → Type 0
HasFunction o s y k = MatchOption
    (slice_get s.pulses (y.marker + function_element s.format k)) ⊥ (IsRecorded s.format o.pulses)

-- all of them are
abbrev pub IsWhole : OriginalView → State → Seen → Type 0
IsWhole o s y = (k : ℕ) → k < control_count_of s.format → HasFunction o s y k

-- this many of the frames have one that is not
abbrev pub AreFilled : OriginalView → State → List Seen → ℕ → Type 0
AreFilled o s [] n = n ≡ 0
AreFilled o s (y ∷ ys) n = (IsWhole o s y × AreFilled o s ys n)
    ⊎ ((IsWhole o s y → ⊥) × ((m : ℕ) × (n ≡ suc m) × AreFilled o s ys m))

-- so of all frames of a state. They are not counted if frames may move, or if none of the recording
-- reads well
abbrev pub AreFilledBy : Bool → List Shown → OriginalView → State → ℕ → Type 0
AreFilledBy false (x ∷ frames) o s n = AreFilled o s (seen_frames s) n
AreFilledBy false [] o s n = n ≡ 0
AreFilledBy true frames o s n = n ≡ 0

-- so by the recording as it was opened
abbrev pub Fills : OriginalView → State → ℕ → Type 0
Fills o s n = AreFilledBy o.terms.moved o.frames o s n
