use Rattle.std.proofs.Common.{◌≡◌, ◌+◌, ◌*◌, ◌/◌, ◌<◌, ◌≤◌, ℕ, max, arith}
use Rattle.std.proofs.Math.Nat.{le-div_iff_mul-le}
use Rattle.std.proofs.lemmas.Nat.{div_below}
use Rattle.irig_explaining.specs.Distances.{apart, interval}
use Rattle.irig_explaining.proofs.prices.Prices.gone.Goals as goal

one : (a i : ℕ) → 0 < i → 2 * a < 3 * i → 1 ≡ max 1 ((2 * a + i) / (2 * i))
one a i some less = let n = div_below (2 * a + i) (2 * i) 2 (omega arith) (omega (arith, less)) in omega (arith, n)

two : (a i : ℕ) → 0 < i → 3 * i ≤ 2 * a → 2 * a < 5 * i → 2 ≡ max 1 ((2 * a + i) / (2 * i))
two a i some le less =
    let n = div_below (2 * a + i) (2 * i) 3 (omega arith) (omega (arith, less)) in
    let m = (le-div_iff_mul-le {k = 2 * i} {x = 2} {y = 2 * a + i} (omega arith)).1 (omega (arith, le)) in omega (arith, n, m)

pub returns-then-apart-interval-clause-exact : goal.returns-then-apart-interval-clause-exact
returns-then-apart-interval-clause-exact c =
    let p = c.args.self.now in let r = c.args.rise in let q = c.args.later in
    one (apart p r q) (interval p r q) (omega (arith, c.interval-interval.ensures.exact, c.interval-interval.ensures.some))
    (omega (arith, c.if-apart-interval.true, c.interval-interval.ensures.exact, c.apart-apart.ensures.exact))

pub returns-then-apart-interval-2-clause-exact : goal.returns-then-apart-interval-2-clause-exact
returns-then-apart-interval-2-clause-exact c =
    let p = c.args.self.now in let r = c.args.rise in let q = c.args.later in
    two (apart p r q) (interval p r q) (omega (arith, c.interval-interval.ensures.exact, c.interval-interval.ensures.some))
    (omega (arith, c.if-apart-interval.false, c.interval-interval.ensures.exact, c.apart-apart.ensures.exact))
    (omega (arith, c.if-apart-interval-2.true, c.interval-interval.ensures.exact, c.apart-apart.ensures.exact))
