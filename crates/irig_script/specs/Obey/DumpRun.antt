-- From the bytes that come in to the bytes that go out. This project's own.
use Rattle.std.specs.Prelude.{◌≡◌, ℕ, List, Option, Result, Ok, Err}
use Rattle.irig_codes.specs.Format.{FormatView}
use Rattle.irig_vcd.specs.declared.fault.VcdFault.{VcdFault}
use Rattle.irig_vcd.specs.{Declarations.declarations_of, Words.words_of}
use Rattle.irig_edit.specs.Opened.Openings.{IsOpened, IsUnopened}
use Rattle.irig_script.specs.declared.obey.status.Status.{Status}
use Rattle.irig_script.specs.declared.obey.status.RunFault.{RunFault}
use Rattle.irig_script.specs.declared.obey.dump_run.DumpRunFault.{DumpRunFault}
use Rattle.irig_script.specs.declared.obey.dump_run.DumpRunFault.TheVariants.{Dump, Run}
use Rattle.irig_script.specs.{Obey.Machine.Machine, Obey.Desk.Desk, Obey.Ending.EndsAs}

-- the dump was opened, with its journal if it has one and in this format if it has none, and
-- the script was obeyed from there on, until the run ended
pub record RanOnDump (wire : Option (List ℕ)) (chosen : FormatView) (source : List ℕ)
    (script left : Option (List ℕ)) (from to : Desk) (result : Result Status RunFault) : Type 0
  where
    pub first : Machine
    pub last : Machine
    pub opened : IsOpened wire source chosen first
    pub ran : EndsAs script left from to first last result

-- if the declarations have a fault it is the one reported, however little memory there is
abbrev pub TellsHeading : Option (List ℕ) → List ℕ → VcdFault → Type 0
TellsHeading wire source fault =
    (e : VcdFault) → declarations_of wire (words_of source) ≡ Err e → fault ≡ e

-- the dump was not opened, and nothing was printed, written or read of the script; or it ran
abbrev pub RunsOnDump : Option (List ℕ) → FormatView → List ℕ → Option (List ℕ) → Option (List ℕ)
    → Desk → Desk → Result Status DumpRunFault → Type 0
RunsOnDump wire chosen source script left from to (Err (Dump fault)) =
    IsUnopened wire source fault × TellsHeading wire source fault × (to ≡ from) × (left ≡ script)
RunsOnDump wire chosen source script left from to (Err (Run fault)) =
    RanOnDump wire chosen source script left from to (Err fault)
RunsOnDump wire chosen source script left from to (Ok status) =
    RanOnDump wire chosen source script left from to (Ok status)
