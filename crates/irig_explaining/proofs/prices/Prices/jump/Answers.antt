use Rattle.std.proofs.Common.{arith}
use Rattle.irig_explaining.proofs.Pruning.{price_jump}
use Rattle.irig_explaining.proofs.prices.Prices.jump.Goals as goal

pub returns : goal.returns
returns c = λ e f of.
    price_jump c.args.self.now c.args.rise e c.args.later f _ (omega arith) (omega arith)
    (rw of (omega (arith, c.least.ensures.exact, c.min.ensures)))
