use Rattle.std.proofs.Common.{◌<◌, ◌≤◌, subst, arith}
use Rattle.irig_explaining.specs.Wires.{wire}
use Rattle.irig_explaining.proofs.Counted.{wire_more}
use Rattle.irig_explaining.proofs.prices.Prices.passing.Goals as goal

pub returns-clause-least : goal.returns-clause-least
returns-clause-least c = λ role.
    let p = c.args.self.now in let r = c.args.rise in let q = c.args.later in let count = c.gone-gone.result in
    let many : 1 < count = omega (arith, c.gone-gone.ensures.some, c.if-gone-eq1.false) in
    let part : c.between.result ≤ wire p role r q count = omega (arith, c.between.ensures.exact, wire_more p role r q count many) in
    subst (λ n. c.between.result ≤ wire p role r q n) c.gone-gone.ensures.exact part
