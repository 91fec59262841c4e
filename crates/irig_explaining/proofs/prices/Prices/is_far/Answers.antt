use Rattle.std.proofs.Common.{◌+◌, ◌*◌, ◌≤◌, subst, arith}
use Rattle.std.proofs.lemmas.Bool.{leb-true}
use Rattle.irig_explaining.specs.Distances.{apart}
use Rattle.irig_explaining.proofs.Counted.{far_wire}
use Rattle.irig_explaining.proofs.prices.Prices.is_far.Goals as goal

pub returns-clause-least : goal.returns-clause-least
returns-clause-least c = λ far role.
    let p = c.args.self.now in
    let far_apart = leb-true ((c.args.count + 1) * c.interval.result) c.apart.result far in
    far_wire p role c.args.rise c.args.later c.args.count c.requires.some
    (omega (arith, c.interval.ensures.exact, c.interval.ensures.some))
    (subst (λ i. (c.args.count + 1) * i ≤ apart p c.args.rise c.args.later) c.interval.ensures.exact (omega (arith, far_apart, c.apart.ensures.exact)))
    (omega (arith, c.if-passed-count.false, c.passed.ensures.exact))
