-- A run on a window of a dump. This project's own.
use Rattle.std.specs.Prelude.{◌≡◌, ℕ, List, Option, Some, None, Result, Ok, Err, is_some, true}
use Rattle.irig_codes.specs.Format.{FormatView}
use Rattle.irig_recording.specs.{FileText.file_text, Recording.RecordingView}
use Rattle.irig_script.specs.{Obey.Desk.Desk, Obey.DumpRun.RunsOnDump}
use Rattle.irig_script.specs.declared.obey.dump_run.DumpRunFault.{DumpRunFault}
use Rattle.irig_script.specs.declared.obey.dump_run.DumpRunFault.TheVariants.{Dump}
use Rattle.irig_script.specs.declared.obey.status.Status.{Status}
use Rattle.irig_vcd.specs.{Window.parts_in, declared.fault.VcdFault.VcdFault}
use Rattle.irig_vcd.specs.declared.window.Window.{Window}

-- The script ran on the dump that is written of the recording that was read, which has no journal.
-- Or the dump has a fault, and nothing was done.
abbrev pub RunsOnRead : Result (RecordingView × Option (List ℕ)) VcdFault → FormatView
    → Option (List ℕ) → Option (List ℕ) → Desk → Desk → Result Status DumpRunFault → Type 0
RunsOnRead (Err fault) chosen script left from to result =
    (result ≡ Err (Dump fault)) × (to ≡ from) × (left ≡ script)
RunsOnRead (Ok (recording, journal)) chosen script left from to result =
    (journal ≡ None) × RunsOnDump None chosen (file_text recording) script left from to result

-- it ran on the whole dump, or so on what the dump says in a window
abbrev pub RunsIn : Option Window → Option (List ℕ) → FormatView → List ℕ → Option (List ℕ)
    → Option (List ℕ) → Desk → Desk → Result Status DumpRunFault → Type 0
RunsIn None wire chosen source script left from to result =
    RunsOnDump wire chosen source script left from to result
RunsIn (Some w) wire chosen source script left from to result =
    RunsOnRead (parts_in (Some w) wire source) chosen script left from to result

-- a window is asked for of a dump that carries a journal
abbrev pub IsOfSession : Option Window → Option (List ℕ) → List ℕ → Type 0
IsOfSession window wire source = (is_some window ≡ true)
    × ((recording : RecordingView) × (journal : List ℕ)
    × (parts_in window wire source ≡ Ok (recording, Some journal)))
