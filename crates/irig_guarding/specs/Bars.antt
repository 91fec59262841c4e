-- Which repairs of a script were kept in a run, and which are barred in the next. This project's
-- own.
use Rattle.std.specs.Prelude.{◌≡◌, ◌++◌, ℕ, List, Option, Some, None, drop, get_or, slice_get}
use Rattle.irig_codes.specs.Format.{FormatView}
use Rattle.irig_recording.specs.declared.pulse.Pulse.{Pulse}
use Rattle.irig_script.specs.{Obey.Machine.Machine}
use Rattle.irig_agreement.specs.declared.fault.Fault.{Fault}
use Rattle.irig_guarding.specs.{Agreeing.HasLedTo, Cutting.IsCutBefore, Undone.RedoesNoMore}
use Rattle.irig_guarding.specs.{Repair.Agrees, Repair.ObeyedAll, declared.kept.KeptAt.KeptAt}

-- the repair of a script that begins at a line, from 0
pub record IsRepairAt (lines : List (List ℕ)) (at : ℕ) (repair : List (List ℕ)) : Type 0 where
  pub rest : List (List ℕ)
  pub whole : drop at lines ≡ repair ++ rest
  pub cut : IsCutBefore repair rest

-- lines lead from one session to what another one is, but for what can be redone
pub record Leads (first : Machine) (lines : List (List ℕ)) (now : Machine) : Type 0 where
  pub left : Machine
  pub obeyed : ObeyedAll first lines left
  pub same : Agrees left now
  pub redo : RedoesNoMore left now

-- lines do, those of a repair among them
abbrev pub LeadsWith : Machine → List (List ℕ) → Machine → Type 0
LeadsWith first repair now =
    (front rest : List (List ℕ)) × Leads first (front ++ (repair ++ rest)) now

-- of these repairs of a script, by the lines that they begin at
abbrev pub AreKept : Machine → List (List ℕ) → List KeptAt → Machine → Type 0
AreKept first lines kept now = (i : ℕ) (k : KeptAt) → slice_get kept i ≡ Some k
    → (repair : List (List ℕ)) × IsRepairAt lines k.line repair × LeadsWith first repair now

-- each of them has led to a fault
abbrev pub HaveLedTo : List Pulse → FormatView → List (List ℕ) → List KeptAt → Fault → Type 0
HaveLedTo recorded f lines kept why = (i : ℕ) (k : KeptAt) → slice_get kept i ≡ Some k
    → (repair : List (List ℕ)) × IsRepairAt lines k.line repair
    × HasLedTo recorded f repair why

-- the reasons for which repairs of a script are barred, by the lines that they begin at
abbrev pub AreBars : List Pulse → FormatView → List (List ℕ) → List (Option Fault) → Type 0
AreBars recorded f lines bars = (at : ℕ) (why : Fault) → get_or bars at None ≡ Some why
    → (repair : List (List ℕ)) × IsRepairAt lines at repair × HasLedTo recorded f repair why
