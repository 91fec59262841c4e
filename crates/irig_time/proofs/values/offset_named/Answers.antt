use Rattle.std.proofs.Common.{◌∙◌}
use Rattle.irig_stamps.specs.Numbers.{number_in}
use Rattle.irig_time.proofs.Limits.{near-capped}
use Rattle.irig_time.proofs.values.offset_named.Goals as goal

pub returns-in-Some-clause-value : goal.returns-in-Some-clause-value
returns-in-Some-clause-value c = c.near.ensures.value ∙ near-capped c.in-Some.picos (number_in c.args.places c.args.text.now) c.in-Some.ensures
