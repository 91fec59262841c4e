use Rattle.std.proofs.Common.{◌-◌, ℕ, ap, sym, ◌∙◌}
use Rattle.irig_law.specs.OfOne.{any_from, surrounds}
use Rattle.irig_law.proofs.AnyFrom.{any-here, any-next, any-none}
use Rattle.irig_law.proofs.of_one.is_doubted.Goals as goal

pub loop-other-preserved : goal.loop-other-preserved
loop-other-preserved c =
    let test = surrounds c.args.format c.args.century c.args.chains.now c.args.one in
    c.loop-other.invariant ∙ any-next test c.loop-other.other c.min-end.result c.loop-other-test.true (sym c.surrounds.ensures ∙ c.if-surrounds.false)

pub returns-then-surrounds : goal.returns-then-surrounds
returns-then-surrounds c =
    let test = surrounds c.args.format c.args.century c.args.chains.now c.args.one in
    let found = c.loop-other.invariant
    ∙ any-here test c.loop-other.other c.min-end.result c.loop-other-test.true (sym c.surrounds.ensures ∙ c.if-surrounds.true) in
    sym (ap (λ (e : ℕ). any_from test (c.args.one - 990) (e - (c.args.one - 990))) (sym c.min-end.ensures) ∙ found)

pub returns : goal.returns
returns c =
    let test = surrounds c.args.format c.args.century c.args.chains.now c.args.one in
    let none = c.loop-other.invariant ∙ any-none test c.loop-other.other c.min-end.result c.loop-other-test.false in
    sym (ap (λ (e : ℕ). any_from test (c.args.one - 990) (e - (c.args.one - 990))) (sym c.min-end.ensures) ∙ none)
