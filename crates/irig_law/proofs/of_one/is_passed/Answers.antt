use Rattle.std.proofs.Common.{sym, ◌∙◌}
use Rattle.irig_law.specs.OfOne.{of_one}
use Rattle.irig_law.proofs.AnyFrom.{any-here, any-next, any-none}
use Rattle.irig_law.proofs.of_one.is_passed.Goals as goal

pub loop-place-preserved : goal.loop-place-preserved
loop-place-preserved c =
    c.loop-place.invariant ∙ any-next (of_one c.args.format c.args.century c.args.chains.now c.args.one) c.loop-place.place c.args.to
    c.loop-place-test.true (sym c.of_one.ensures ∙ c.if-of_one.false)

pub returns-then-of_one : goal.returns-then-of_one
returns-then-of_one c =
    sym (c.loop-place.invariant ∙ any-here (of_one c.args.format c.args.century c.args.chains.now c.args.one) c.loop-place.place c.args.to
    c.loop-place-test.true (sym c.of_one.ensures ∙ c.if-of_one.true))

pub returns : goal.returns
returns c =
    sym (c.loop-place.invariant ∙ any-none (of_one c.args.format c.args.century c.args.chains.now c.args.one) c.loop-place.place c.args.to
    c.loop-place-test.false)
