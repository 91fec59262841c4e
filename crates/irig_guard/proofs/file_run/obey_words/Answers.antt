use Rattle.std.specs.Prelude.{ℕ, List, Ok}
use Rattle.clap.specs.Words.{Text}
use Rattle.irig_guard.specs.Ending.{EndsBy, Obeys}
use Rattle.irig_guard.specs.Given.{Ends, Files, IsRead}
use Rattle.irig_guard.specs.declared.ending.Ending.TheVariants.{Usage, Unread, Over, OverOther, UnusableOther, Unknown, Ran}
use Rattle.irig_guard.specs.{Settings.Reads, declared.chosen.Settings.Settings, declared.ending.Ending.Ending}
use Rattle.std.proofs.Common.{refl}
use Rattle.irig_files.specs.Nowhere.{leaves_nowhere}
use Rattle.irig_guard.proofs.file_run.obey_words.Goals as goal

ends_by : (words : List Text) (given : Files) (old new : Ends) (chosen : Settings) (ending : Ending) → Reads words (Ok chosen)
    → Obeys given old new chosen ending → ((path : List ℕ) → IsRead chosen path → given.spared path) → EndsBy words given old new ending
ends_by words given old new chosen (Usage fault) r o s = absurd o
ends_by words given old new chosen (Unread path fault) r o s = record { chosen = chosen; reads = r; obeyed = o; stays = s }
ends_by words given old new chosen Over r o s = record { chosen = chosen; reads = r; obeyed = o; stays = s }
ends_by words given old new chosen Unknown r o s = record { chosen = chosen; reads = r; obeyed = o; stays = s }
ends_by words given old new chosen (OverOther path) r o s = record { chosen = chosen; reads = r; obeyed = o; stays = s }
ends_by words given old new chosen (UnusableOther path why) r o s = record { chosen = chosen; reads = r; obeyed = o; stays = s }
ends_by words given old new chosen (Ran path result) r o s = record { chosen = chosen; reads = r; obeyed = o; stays = s }

pub returns-in-Ok : goal.returns-in-Ok
returns-in-Ok g c = ends_by _ _ _ _ c.in-Ok.chosen c.run_on_track.result c.in-Ok.ensures c.run_on_track.ensures.obeyed c.run_on_track.ensures.spared

pub returns-in-Err : goal.returns-in-Err
returns-in-Err g c = (c.in-Err.ensures, (refl, (λ to. leaves_nowhere _ _ _ _ (g.met.D.Disk.only_now _))))
