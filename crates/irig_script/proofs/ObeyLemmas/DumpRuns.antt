-- A run on a dump, by the run of its script.
use Rattle.std.proofs.Common.{◌≡◌, ℕ, List, Option, Result, Ok, Err, MatchResult, subst, sym, ◌∙◌}
use Rattle.irig_codes.specs.Format.{FormatView}
use Rattle.irig_vcd.specs.{Parts.dump_parts, declared.fault.VcdFault.VcdFault}
use Rattle.irig_recording.specs.Recording.{RecordingView}
use Rattle.irig_vcd.proofs.WholeDump.{no_parts}
use Rattle.irig_script.specs.declared.obey.dump_run.DumpRunFault.TheVariants.{Dump, Run}
use Rattle.irig_script.specs.{Obey.Desk.Desk, Obey.DumpRun.RanOnDump, Obey.DumpRun.RunsOnDump, Obey.DumpRun.TellsHeading, declared.obey.status.Status.Status}
use Rattle.irig_script.specs.{declared.obey.status.RunFault.RunFault, declared.obey.dump_run.DumpRunFault.DumpRunFault}

-- a script that ran on a dump that was opened
pub ran_on_dump : (wire : Option (List ℕ)) (chosen : FormatView) (source : List ℕ) (script left : Option (List ℕ)) (from to : Desk)
    (ended : Result Status RunFault) (result : Result Status DumpRunFault)
    → MatchResult ended (λ status. result ≡ Ok status) (λ fault. result ≡ Err (Run fault))
    → RanOnDump wire chosen source script left from to ended → RunsOnDump wire chosen source script left from to result
ran_on_dump wire chosen source script left from to (Ok status) result e h =
    subst (λ (r : Result Status DumpRunFault). RunsOnDump wire chosen source script left from to r) (sym e) h
ran_on_dump wire chosen source script left from to (Err fault) result e h =
    subst (λ (r : Result Status DumpRunFault). RunsOnDump wire chosen source script left from to r) (sym e) h

-- of a dump that can be read, the declarations have no fault
pub read_heading : (wire : Option (List ℕ)) (bytes : List ℕ) (x : RecordingView × Option (List ℕ)) (fault : VcdFault)
    → dump_parts wire bytes ≡ Ok x → TellsHeading wire bytes fault
read_heading wire bytes x fault read e h = let bad : Ok x ≡ Err e = sym read ∙ no_parts wire bytes e h in cc

-- a run of a script is no dump that was not opened
pub never_dump : (ended : Result Status RunFault) (result : Result Status DumpRunFault)
    → MatchResult ended (λ status. result ≡ Ok status) (λ fault. result ≡ Err (Run fault)) → (fault : VcdFault) → result ≡ Err (Dump fault) → ⊥
never_dump (Ok status) result e fault is = let bad = sym e ∙ is in cc
never_dump (Err other) result e fault is = let bad = sym e ∙ is in cc
