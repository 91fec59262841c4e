use Rattle.std.proofs.Common.{inl, refl}
use Rattle.irig_files.specs.Nowhere.{leaves_nowhere}
use Rattle.irig_files.proofs.Apart.{stays_here}
use Rattle.irig_guard.proofs.file_run.run_on_track.Goals as goal

pub returns-in_default-clause-obeyed : goal.returns-in_default-clause-obeyed
returns-in_default-clause-obeyed g c = (refl, (refl, (λ to. leaves_nowhere _ _ _ _ (g.met.D.Disk.only_now _))), inl refl)

pub returns-in_default-clause-spared : goal.returns-in_default-clause-spared
returns-in_default-clause-spared g c = λ path read told. stays_here (g.D.Disk.disk c.args.disk.now) path (g.met.D.Disk.only_now c.args.disk.now)
