use Rattle.std.proofs.Common.{◌≡◌, ◌∙◌, ◌*◌, ◌≤◌, false, sym, subst, arith}
use Rattle.irig_explaining.specs.Distances.{far, interval, is_off, late}
use Rattle.irig_explaining.proofs.Pruning.{on_alone}
use Rattle.irig_explaining.proofs.prices.Prices.on.Goals as goal

pub returns-then-count-said-clause-exact : goal.returns-then-count-said-clause-exact
returns-then-count-said-clause-exact c =
    let p = c.args.self.now in let role = c.args.role in let r = c.args.rise in let q = c.args.later in let n = c.args.count in
    let near : is_off p c.interval.result c.far-off.result n ≡ false = sym c.is_off.ensures.exact ∙ c.if-is_off.false in
    let here : is_off p (interval p r q) (far p r q n) n ≡ false =
    subst (λ x. is_off p (interval p r q) x n ≡ false) c.far-off.ensures (subst (λ i. is_off p i c.far-off.result n ≡ false) c.interval.ensures.exact near) in
    let short : far p r q n ≤ 4 * interval p r q = omega (arith, c.is_off.ensures.near c.if-is_off.false, c.far-off.ensures, c.interval.ensures.exact) in
    let off = subst (λ x. c.late.result ≡ late p x n) c.far-off.ensures c.late.ensures in
    omega (arith, on_alone p role r q n (omega (arith, c.if-count-said.true, c.requires.said)) here short, c.wire.ensures.exact, off, c.min-late.ensures)
