-- A run on the bytes of a dump, as the settings ask. This project's own.
use Rattle.std.specs.Prelude.{◌≡◌, ℕ, List, Result, is_some, true}
use Rattle.irig_files.specs.{Puts.texts_at, Tracks.name_in}
use Rattle.irig_script.specs.Obey.Desk.{desk_at}
use Rattle.irig_script.specs.declared.obey.dump_run.DumpRunFault.{DumpRunFault}
use Rattle.irig_script.specs.declared.obey.status.Status.{Status}
use Rattle.irig_settings.specs.declared.chosen.Settings.{Settings}
use Rattle.irig_text.specs.Shelved.{shelved}
use Rattle.irig_editor.specs.{Given.Ends, Given.Files, Shortage.IsShortOnly, Windows.RunsIn}

-- The script ran on the bytes, by the wire, the window and the format of the settings, if its
-- session was not out of memory; what was written is where their path to write leads, kept through
-- each crash. With a window the dump is still what it was.
pub record RunsBy (given : Files) (chosen : Settings) (source : List ℕ) (old new : Ends)
    (result : Result Status DumpRunFault) : Type 0 where
  pub label : List ℕ
  pub failures : ℕ
  pub ran : RunsIn chosen.window (name_in chosen.wire) chosen.format source
      old.script new.script
      (desk_at old.screen (shelved (texts_at (given.paths chosen.out.now) old.writes) 0 label))
      (desk_at new.screen
      (shelved (texts_at (given.paths chosen.out.now) new.writes) failures label))
      result
  pub short : IsShortOnly chosen source result
  pub kept : given.kept chosen.out.now
  pub stays : is_some chosen.window ≡ true → given.spared chosen.track.now
