-- When a dump that was read is out of memory. This project's own.
use Rattle.std.specs.Prelude.{◌≡◌, ℕ, List, Result, Err}
use Rattle.irig_edit.specs.Opened.Openings.{MayBeShort}
use Rattle.irig_files.specs.Tracks.{name_in}
use Rattle.irig_script.specs.declared.obey.dump_run.DumpRunFault.{DumpRunFault}
use Rattle.irig_script.specs.declared.obey.dump_run.DumpRunFault.TheVariants.{Dump}
use Rattle.irig_script.specs.declared.obey.status.Status.{Status}
use Rattle.irig_settings.specs.declared.chosen.Settings.{Settings}
use Rattle.irig_vcd.specs.{Window.parts_in, declared.fault.VcdFault.TheVariants.OutOfMemory}

-- a run on these bytes is out of memory only if the session of what they say, in the window if
-- there is one, may be
abbrev pub IsShortOnly : Settings → List ℕ → Result Status DumpRunFault → Type 0
IsShortOnly chosen source result =
    result ≡ Err (Dump OutOfMemory)
    → MayBeShort (parts_in chosen.window (name_in chosen.wire) source)
