use Rattle.std.proofs.Common.{◌∙◌}
use Rattle.irig_stamps.specs.Numbers.{whole_in}
use Rattle.irig_time.proofs.Limits.{capped}
use Rattle.irig_time.proofs.values.whole_between.Goals as goal

pub returns-in-Some-clause-value : goal.returns-in-Some-clause-value
returns-in-Some-clause-value c =
    c.within.ensures.value ∙ capped c.args.first c.args.last c.in-Some.number (whole_in c.args.text.now) c.requires c.in-Some.ensures
