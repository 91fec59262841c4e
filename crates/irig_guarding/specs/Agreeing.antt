-- That a recording and what a run under guard leaves agree, as wholes. This project's own.
use Rattle.std.specs.Prelude.{◌≡◌, ◌++◌, ℕ, false, List}
use Rattle.irig_codes.specs.Format.{FormatView}
use Rattle.irig_recording.specs.declared.pulse.Pulse.{Pulse}
use Rattle.irig_edit.specs.State.State.{State}
use Rattle.irig_script.specs.{Obey.Machine.Machine}
use Rattle.irig_agreement.specs.{Agreement.Agree, Changes.IsFault, Recorded.RecordedView}
use Rattle.irig_agreement.specs.declared.fault.Fault.{Fault}
use Rattle.irig_safety.specs.Terms.{TermsView}
use Rattle.irig_guarding.specs.Repair.{ObeyedAll}

-- the century that a year without one is of, as `irig_time` takes it if none is said
abbrev pub century : ℕ
century = 20

-- this is kept of a recording that was opened as a state
pub record IsRecordedOf (s : State) (recorded : RecordedView) : Type 0 where
  pub format : recorded.format ≡ s.format
  pub century : recorded.century ≡ century
  pub pulses : recorded.pulses ≡ s.pulses

-- each moment that has a time in the first state keeps it in the second, and none has a new one
-- next to a pulse that is doubted. It is not asked if frames may move
abbrev pub AgreesAfter : TermsView → State → State → Type 0
AgreesAfter terms old new = terms.moved ≡ false → Agree old.format century old.pulses new.pulses

-- lines that are obeyed from a session on these pulses, those of a repair among them, lead to a
-- state with this fault
pub record HasLedTo (recorded : List Pulse) (f : FormatView) (repair : List (List ℕ)) (why : Fault)
    : Type 0 where
  pub first : Machine
  pub recording : first.state.pulses ≡ recorded
  pub front : List (List ℕ)
  pub rest : List (List ℕ)
  pub last : Machine
  pub obeyed : ObeyedAll first (front ++ (repair ++ rest)) last
  pub fault : IsFault f century recorded last.state.pulses why
