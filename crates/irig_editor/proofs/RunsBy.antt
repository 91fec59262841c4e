-- An edit on the shelf of a file, as one by the settings.
use Rattle.std.proofs.Common.{◌≡◌, [], ℕ, true, List, Option, Result, Err, subst}
use Rattle.std.specs.Prelude.{is_some}
use Rattle.irig_vcd.specs.Extent.{short}
use Rattle.irig_vcd.specs.{Window.parts_in, declared.fault.VcdFault.VcdFault}
use Rattle.irig_script.specs.{Obey.Desk.Desk, Obey.Desk.desk_at, Print.Screen.Shown, declared.obey.status.Status.Status}
use Rattle.irig_script.specs.{declared.obey.dump_run.DumpRunFault.DumpRunFault, declared.obey.dump_run.DumpRunFault.TheVariants.Dump}
use Rattle.irig_text.specs.Shelved.{shelved}
use Rattle.irig_files.proofs.Sound.{never_in}
use Rattle.irig_editor.specs.{Given.Ends, Given.Files, Given.ends, RunsBy.RunsBy, Shortage.IsShortOnly, Windows.RunsIn}
use Rattle.irig_editor.proofs.Windows.{fails_in}
use Rattle.irig_files.specs.{Puts.texts_at, Tracks.name_in, Writes.Write}
use Rattle.irig_settings.specs.declared.chosen.Settings.{Settings}

-- the shelf was at the path of the settings, from the start to the end
pub runs_by : (given : Files) (chosen : Settings) (source : List ℕ) (screen screen_new : Shown) (script left : Option (List ℕ))
    (texts texts_new : Option (List (List ℕ))) (label label_new : List ℕ)
    (writes new : Option (List Write)) (failures failures_new : ℕ) (result : Result Status DumpRunFault)
    → label_new ≡ label → texts ≡ texts_at (given.paths chosen.out.now) writes → texts_new ≡ texts_at (given.paths chosen.out.now) new → failures ≡ 0
    → given.kept chosen.out.now → (is_some chosen.window ≡ true → given.spared chosen.track.now)
    → IsShortOnly chosen source result
    → RunsIn chosen.window (name_in chosen.wire) chosen.format source script left (desk_at screen (shelved texts failures label))
    (desk_at screen_new (shelved texts_new failures_new label_new)) result
    → RunsBy given chosen source (ends screen writes script) (ends screen_new new left) result
runs_by given chosen source screen screen_new script left texts texts_new label label_new writes new failures failures_new result e p q z kept stays
    short h = record {
      label = label;
      failures = failures_new;
      ran = subst (λ (d : Desk). RunsIn chosen.window (name_in chosen.wire) chosen.format source script left d
          (desk_at screen_new (shelved (texts_at (given.paths chosen.out.now) new) failures_new label)) result)
          (λ j. desk_at screen (shelved (p j) (z j) label))
          (subst (λ (d : Desk). RunsIn chosen.window (name_in chosen.wire) chosen.format source script left
          (desk_at screen (shelved texts failures label)) d result)
          (λ j. desk_at screen_new (shelved (q j) failures_new (e j))) h);
      short = short;
      kept = kept;
      stays = stays;
    }

-- of a dump with a fault nothing was run
pub fails_by : (given : Files) (chosen : Settings) (source : List ℕ) (at : Ends) (fault : VcdFault) → given.kept chosen.out.now
    → given.spared chosen.track.now → parts_in chosen.window (name_in chosen.wire) source ≡ Err fault
    → RunsBy given chosen source at at (Err (Dump fault))
fails_by given chosen source at fault kept spared is = record {
  label = [];
  failures = 0;
  ran = fails_in chosen.window (name_in chosen.wire) chosen.format source at.script _ fault is;
  short = λ memory. absurd (never_in (short chosen.window) (name_in chosen.wire) source fault is (cc memory));
  kept = kept;
  stays = λ asked. spared;
}
