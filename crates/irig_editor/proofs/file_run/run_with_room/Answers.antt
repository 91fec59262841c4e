use Rattle.std.proofs.Common.{refl, inr}
use Rattle.irig_files.proofs.Apart.{stays_here}
use Rattle.irig_files.specs.Nowhere.{leaves_nowhere}
use Rattle.irig_editor.proofs.file_run.run_with_room.Goals as goal

pub returns-in-Ok-clause-obeyed : goal.returns-in-Ok-clause-obeyed
returns-in-Ok-clause-obeyed g c =
    let read = c.in-Ok.ensures.read in
    c.run_on_read.ensures.obeyed read.source read.parts read.whole

pub returns-in-Err-clause-obeyed : goal.returns-in-Err-clause-obeyed
returns-in-Err-clause-obeyed g c = (
  refl,
  (
    refl,
    (λ to. (leaves_nowhere _ _ _ _ (g.met.D.Disk.only_now _))),
    (λ at told. stays_here (g.D.Disk.disk c.args.disk.now) at (g.met.D.Disk.only_now c.args.disk.now)),
  ),
  inr c.in-Err.ensures.unread,
)
