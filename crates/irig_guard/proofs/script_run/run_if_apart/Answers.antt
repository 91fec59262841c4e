use Rattle.std.proofs.Common.{refl, rules}
use Rattle.irig_files.specs.Nowhere.{leaves_nowhere}
use Rattle.irig_files.proofs.Apart.{stays_here}
use Rattle.irig_guard.proofs.script_run.run_if_apart.Goals as goal

pub returns-in-Ok-false-clause-obeyed : goal.returns-in-Ok-false-clause-obeyed
returns-in-Ok-false-clause-obeyed g c = λ source is whole. c.run_with_others.ensures.obeyed source is whole

pub returns-in-Ok-true-clause-obeyed : goal.returns-in-Ok-true-clause-obeyed
returns-in-Ok-true-clause-obeyed g c = λ source is whole.
    ((refl, (λ to. leaves_nowhere _ _ _ _ (g.met.D.Disk.only_now _))), search rules, search rules)

pub returns-in-Ok-true-clause-spared : goal.returns-in-Ok-true-clause-spared
returns-in-Ok-true-clause-spared g c = λ path read told. stays_here (g.D.Disk.disk c.args.disk.now) path (g.met.D.Disk.only_now c.args.disk.now)

pub returns-in-Err-clause-obeyed : goal.returns-in-Err-clause-obeyed
returns-in-Err-clause-obeyed g c = λ source is whole. (refl, (λ to. leaves_nowhere _ _ _ _ (g.met.D.Disk.only_now _)))

pub returns-in-Err-clause-spared : goal.returns-in-Err-clause-spared
returns-in-Err-clause-spared g c = λ path read told. stays_here (g.D.Disk.disk c.args.disk.now) path (g.met.D.Disk.only_now c.args.disk.now)
