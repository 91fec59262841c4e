-- Why a result does not agree with a recording. This project's own.
use Rattle.std.specs.Prelude.{◌≡◌, ℕ, false, List, Some, slice_get}
use Rattle.irig_codes.specs.Format.{FormatView}
use Rattle.irig_recording.specs.declared.pulse.Pulse.{Pulse}
use Rattle.irig_timed.specs.{Moments.frames_by, declared.moment.Moment.Moment}
use Rattle.irig_agreement.specs.Agreement.{IsAsked, IsTime, is_alike}
use Rattle.irig_agreement.specs.Doubts.{IsNextToDoubt}
use Rattle.irig_agreement.specs.declared.fault.{Change.Change, Fault.Fault}
use Rattle.irig_agreement.specs.declared.fault.Change.TheVariants.{Doubted, Lost, Other}

-- At a moment they do not: it has no time any more, or another one, or has a new one next
-- to a pulse that is doubted
abbrev pub IsChange : FormatView → ℕ → List Pulse → List Pulse → ℕ → Change → Type 0
IsChange f century old new micros Lost =
    ((x : Moment) × IsTime f century old micros x)
    × ((y : Moment) → IsTime f century new micros y → ⊥)
IsChange f century old new micros Other =
    (x : Moment) × IsTime f century old micros x
    × ((y : Moment) × IsTime f century new micros y)
    × ((y : Moment) → IsTime f century new micros y → is_alike f century old new x y ≡ false)
IsChange f century old new micros Doubted =
    ((x : Moment) → IsTime f century old micros x → ⊥)
    × ((y : Moment) × IsTime f century new micros y)
    × IsNextToDoubt f century old (frames_by f false century old) micros

abbrev pub IsFault : FormatView → ℕ → List Pulse → List Pulse → Fault → Type 0
IsFault f century old new x =
    IsAsked old new x.moment × IsChange f century old new x.moment x.what

abbrev pub AreFaults : FormatView → ℕ → List Pulse → List Pulse → List Fault → Type 0
AreFaults f century old new list =
    (i : ℕ) (x : Fault) → slice_get list i ≡ Some x → IsFault f century old new x
