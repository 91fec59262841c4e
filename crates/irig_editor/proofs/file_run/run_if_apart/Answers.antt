use Rattle.std.proofs.Common.{refl, rules}
use Rattle.irig_files.proofs.Apart.{stays_here}
use Rattle.irig_files.specs.Nowhere.{leaves_nowhere}
use Rattle.irig_editor.proofs.file_run.run_if_apart.Goals as goal

pub run_on_track-requires : goal.run_on_track-requires
run_on_track-requires g c = λ told. c.in-Ok-false.ensures.apart told c.in-Ok-false.field-0-test

pub returns-in-Ok-true : goal.returns-in-Ok-true
returns-in-Ok-true g c = (
  (
    refl,
    (λ to. (leaves_nowhere _ _ _ _ (g.met.D.Disk.only_now _))),
    (λ at told. stays_here (g.D.Disk.disk c.args.disk.now) at (g.met.D.Disk.only_now c.args.disk.now)),
  ),
  search rules,
  search rules,
)

pub returns-in-Err : goal.returns-in-Err
returns-in-Err g c = (
  (
    refl,
    (λ to. (leaves_nowhere _ _ _ _ (g.met.D.Disk.only_now _))),
    (λ at told. stays_here (g.D.Disk.disk c.args.disk.now) at (g.met.D.Disk.only_now c.args.disk.now)),
  ),
  c.in-Err.ensures.unknown,
)
