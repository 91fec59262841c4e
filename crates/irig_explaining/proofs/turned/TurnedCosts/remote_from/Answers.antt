use Rattle.std.proofs.Common.{◌-◌, ◌≤◌, subst, arith}
use Rattle.irig_explaining.proofs.turned.TurnedCosts.remote_from.Goals as goal

pub returns : goal.returns
returns g c = λ r e f k lt.
    let t = c.args.self.now in let n = t.count in let least = c.remote_to-remote.result.least in
    subst (λ x. least ≤ g.C.Costs.price t.costs.now x f (n - 1 - r) e k) c.turned.ensures
    (c.remote_to-remote.ensures f (n - 1 - r) e k (omega (arith, lt, c.saturating_sub.ensures)) (omega (arith, lt, c.saturating_sub.ensures)))
