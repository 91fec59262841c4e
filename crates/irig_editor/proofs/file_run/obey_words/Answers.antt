use Rattle.std.specs.Prelude.{List, Ok}
use Rattle.clap.specs.Words.{Text}
use Rattle.irig_settings.specs.{Settings.Reads, declared.chosen.Settings.Settings}
use Rattle.irig_editor.specs.declared.ending.Ending.TheVariants.{Usage, Unread, Over, Unknown, Saved, Ran}
use Rattle.irig_editor.specs.{Ending.EndsBy, Ending.Obeys, Given.Ends, Given.Files, declared.ending.Ending.Ending}
use Rattle.std.proofs.Common.{refl}
use Rattle.irig_files.proofs.Apart.{stays_here}
use Rattle.irig_files.specs.Nowhere.{leaves_nowhere}
use Rattle.irig_editor.proofs.file_run.obey_words.Goals as goal

ends_by : (words : List Text) (given : Files) (old new : Ends) (chosen : Settings) (ending : Ending) → Reads words (Ok chosen)
    → Obeys given old new chosen ending → EndsBy words given old new ending
ends_by words given old new chosen (Usage fault) r o = absurd o
ends_by words given old new chosen (Unread path fault) r o = (chosen, r, o)
ends_by words given old new chosen Over r o = (chosen, r, o)
ends_by words given old new chosen Unknown r o = (chosen, r, o)
ends_by words given old new chosen (Saved path) r o = (chosen, r, o)
ends_by words given old new chosen (Ran path result) r o = (chosen, r, o)

pub returns-in-Ok : goal.returns-in-Ok
returns-in-Ok g c = ends_by _ _ _ _ c.in-Ok.chosen c.run_if_apart.result c.in-Ok.ensures c.run_if_apart.ensures

pub returns-in-Err : goal.returns-in-Err
returns-in-Err g c = (
  c.in-Err.ensures,
  (
    refl,
    (λ to. (leaves_nowhere _ _ _ _ (g.met.D.Disk.only_now _))),
    (λ at told. stays_here (g.D.Disk.disk c.args.disk.now) at (g.met.D.Disk.only_now c.args.disk.now)),
  ),
)
