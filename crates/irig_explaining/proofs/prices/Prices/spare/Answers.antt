use Rattle.std.proofs.Common.{◌<◌, ◌/◌, ◌+◌, subst, inr, arith}
use Rattle.irig_explaining.specs.Distances.{interval, late}
use Rattle.irig_explaining.proofs.Counts.{is_alone}
use Rattle.irig_explaining.proofs.prices.Prices.spare.Goals as goal

pub returns-then-late-gt72-clause-near : goal.returns-then-late-gt72-clause-near
returns-then-late-gt72-clause-near c = λ n first other few.
    let p = c.args.self.now in let r = c.args.rise in let q = c.args.later in let i = c.interval.result in
    let much : 72 < late p (i / 2) (c.args.said + 5) = omega (arith, c.if-late-gt72.true, c.late.ensures) in
    inr (is_alone p r q n (omega (arith, c.interval.ensures.exact, c.interval.ensures.some)) first
    (λ e. other (omega (arith, e, c.requires.said))) (omega (arith, few, c.requires.said))
    (subst (λ g. 72 < late p (interval p r q / 2) (g + 5)) c.requires.said
    (subst (λ x. 72 < late p (x / 2) (c.args.said + 5)) c.interval.ensures.exact much)))
