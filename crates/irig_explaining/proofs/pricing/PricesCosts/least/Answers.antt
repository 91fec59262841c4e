use Rattle.std.proofs.Common.{arith}
use Rattle.irig_explaining.proofs.Pruning.{passing_least}
use Rattle.irig_explaining.proofs.pricing.PricesCosts.least.Goals as goal

pub returns : goal.returns
returns c = λ e f k.
    let p = c.args.self.now in
    passing_least p c.args.rise e c.args.later f k c.passing_up_to.result c.min.result
    (omega arith) (omega arith) (c.passing_up_to.ensures _) (omega (arith, c.min.ensures))
