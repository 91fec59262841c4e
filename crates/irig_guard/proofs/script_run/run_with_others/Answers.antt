use Rattle.std.proofs.Common.{refl, rules}
use Rattle.irig_files.proofs.Apart.{stays_here}
use Rattle.irig_files.specs.Nowhere.{leaves_nowhere}
use Rattle.irig_guard.proofs.script_run.run_with_others.Goals as goal

pub returns-in-Ok-Some-clause-obeyed : goal.returns-in-Ok-Some-clause-obeyed
returns-in-Ok-Some-clause-obeyed g c = λ source is whole.
    ((refl, (λ to. leaves_nowhere _ _ _ _ (g.met.D.Disk.only_now _))), search rules, search rules, search rules)

pub returns-in-Ok-Some-clause-spared : goal.returns-in-Ok-Some-clause-spared
returns-in-Ok-Some-clause-spared g c = λ path read told. stays_here (g.D.Disk.disk c.args.disk.now) path (g.met.D.Disk.only_now c.args.disk.now)

pub returns-in-Err-clause-obeyed : goal.returns-in-Err-clause-obeyed
returns-in-Err-clause-obeyed g c = λ source is whole. (refl, (λ to. leaves_nowhere _ _ _ _ (g.met.D.Disk.only_now _)))

pub returns-in-Err-clause-spared : goal.returns-in-Err-clause-spared
returns-in-Err-clause-spared g c = λ path read told. stays_here (g.D.Disk.disk c.args.disk.now) path (g.met.D.Disk.only_now c.args.disk.now)

pub run_on_read-result-requires-clause-others : goal.run_on_read-result-requires-clause-others
run_on_read-result-requires-clause-others g c = λ told. c.in-Ok-None.ensures.apart told c.in-Ok-None.field-0-is

pub returns-in-Ok-clause-obeyed : goal.returns-in-Ok-clause-obeyed
returns-in-Ok-clause-obeyed g c = λ source is whole. (refl, (source, whole, c.run_on_read-result.ensures.ran source is))

pub returns-in-Err-terms_of-clause-obeyed : goal.returns-in-Err-terms_of-clause-obeyed
returns-in-Err-terms_of-clause-obeyed g c = λ source is whole.
    ((refl, (λ to. leaves_nowhere _ _ _ _ (g.met.D.Disk.only_now _))), search rules, search rules)

pub returns-in-Err-terms_of-clause-spared : goal.returns-in-Err-terms_of-clause-spared
returns-in-Err-terms_of-clause-spared g c = λ path read told.
    stays_here (g.D.Disk.disk c.args.disk.now) path (g.met.D.Disk.only_now c.args.disk.now)
