use Rattle.std.proofs.Common.{arith}
use Rattle.irig_explaining.proofs.Pruning.{kind_least}
use Rattle.irig_explaining.proofs.pricing.PricesCosts.least_by.Goals as goal

pub returns : goal.returns
returns c = λ e f.
    let p = c.args.self.now in
    kind_least p c.args.rise e c.args.later f c.args.kind c.passing.result c.min.result
    (omega arith) (omega arith) (c.passing.ensures.least _) (omega (arith, c.min.ensures, c.more_by.ensures.exact))
