use Rattle.std.proofs.Common.{refl, inl}
use Rattle.irig_files.proofs.Apart.{stays_here}
use Rattle.irig_files.specs.Nowhere.{leaves_nowhere}
use Rattle.irig_editor.proofs.file_run.run_on_track.Goals as goal

pub returns-in_default : goal.returns-in_default
returns-in_default g c = (
  refl,
  (
    refl,
    (λ to. (leaves_nowhere _ _ _ _ (g.met.D.Disk.only_now _))),
    (λ at told. stays_here (g.D.Disk.disk c.args.disk.now) at (g.met.D.Disk.only_now c.args.disk.now)),
  ),
  inl refl,
)
