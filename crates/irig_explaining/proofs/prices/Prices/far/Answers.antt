use Rattle.std.proofs.Common.{◌+◌, ◌*◌, ◌/◌, ◌≤◌, max, arith}
use Rattle.irig_explaining.specs.Distances.{apart}
use Rattle.irig_explaining.proofs.Counts.{reach}
use Rattle.irig_explaining.proofs.prices.Prices.far.Goals as goal

pub overflow_mul-count : goal.overflow_mul-count
overflow_mul-count c =
    let a = apart c.args.self.now c.args.rise c.args.later in let i = c.interval-interval.result in
    let few : c.args.count ≤ max 1 ((2 * a + i) / (2 * i)) + 5 = rw c.interval-interval.ensures.exact c.requires.few in
    omega (arith, reach a i c.args.count c.interval-interval.ensures.some few, c.interval-interval.ensures.short, c.apart.ensures.exact, c.apart.ensures.small)
