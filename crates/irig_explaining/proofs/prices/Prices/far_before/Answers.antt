use Rattle.std.proofs.Common.{◌+◌, ◌-◌, ◌*◌, ◌/◌, ◌<◌, ◌≤◌, arith}
use Rattle.irig_explaining.specs.Distances.{rise_at}
use Rattle.irig_explaining.proofs.FarApart.{earlier, remote_wire}
use Rattle.irig_explaining.proofs.prices.Prices.far_before.Goals as goal

pub returns : goal.returns
returns c = λ r role lt.
    let p = c.args.self.now in let q = c.args.later in let l = p.clock.now.longest / 256 + 1 in
    let before = c.count_before.ensures.before r lt in
    let far : rise_at p r + 6 * l ≤ rise_at p q = omega (arith, before, c.min.ensures, c.saturating_sub-apart.ensures, c.rise_at.ensures.exact) in
    let noise : rise_at p r + l ≤ rise_at p (q - 5) =
    omega (arith, before, c.min.ensures, c.saturating_sub-noise.ensures, c.rise_at-2.ensures.exact) in
    let first : r < q - 5 = earlier p r (q - 5) (omega (arith, lt, c.count_before.ensures.few)) (omega (arith, noise)) in
    (omega (arith, first), remote_wire p role r (q - 5) q l c.requires.later first (omega (arith, c.requires.some)) (omega arith) noise far)
