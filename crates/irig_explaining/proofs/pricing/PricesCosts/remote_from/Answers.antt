use Rattle.std.proofs.Common.{arith}
use Rattle.irig_explaining.specs.declared.table.TheConstants.{FAR}
use Rattle.irig_explaining.specs.Priced.{role_at}
use Rattle.irig_explaining.proofs.Pruning.{passing_least}
use Rattle.irig_explaining.proofs.pricing.PricesCosts.remote_from.Goals as goal

pub returns : goal.returns
returns c = λ r e f k lt.
    let p = c.args.self.now in let far = c.far_before-rise.ensures r (role_at p e) lt in
    passing_least p r e c.args.later f k FAR FAR far.0 (omega arith) far.1 (omega arith)
