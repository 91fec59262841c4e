use Rattle.std.proofs.Common.{arith}
use Rattle.irig_explaining.specs.declared.table.TheConstants.{FAR}
use Rattle.irig_explaining.specs.Priced.{role_at}
use Rattle.irig_explaining.proofs.Pruning.{passing_least}
use Rattle.irig_explaining.proofs.pricing.PricesCosts.remote_to.Goals as goal

pub returns : goal.returns
returns c = λ e q f k le lt.
    let p = c.args.self.now in let far = c.far_after-rise.ensures q (role_at p e) le (omega (arith, lt)) in
    passing_least p c.args.rise e q f k FAR FAR far.0 (omega (arith, lt)) far.1 (omega arith)
