use Rattle.std.proofs.Common.{◌≡◌, ◌+◌, ◌-◌, ℕ, arith, ap, length, min, sym, ◌∙◌}
use Rattle.irig_law.specs.OfOne.{any_from, is_beyond}
use Rattle.irig_law.proofs.AnyFrom.{any-here, any-next, any-none}
use Rattle.irig_law.proofs.of_one.reaches_beyond.Goals as goal

pub loop-far-preserved : goal.loop-far-preserved
loop-far-preserved c =
    let test = is_beyond c.args.format c.args.century c.args.chains.now c.args.one c.args.other in
    c.loop-far.invariant ∙ any-next test c.loop-far.far c.min-end.result c.loop-far-test.true (sym c.is_beyond.ensures ∙ c.if-is_beyond.false)

pub returns-then-is_beyond : goal.returns-then-is_beyond
returns-then-is_beyond c =
    let test = is_beyond c.args.format c.args.century c.args.chains.now c.args.one c.args.other in
    let end : c.min-end.result ≡ min (length c.args.chains.now) (c.args.other + 496) = omega (arith, c.min-end.ensures) in
    let found = c.loop-far.invariant ∙ any-here test c.loop-far.far c.min-end.result c.loop-far-test.true (sym c.is_beyond.ensures ∙ c.if-is_beyond.true) in
    sym (ap (λ (e : ℕ). any_from test (c.args.other + 1) (e - (c.args.other + 1))) (sym end) ∙ found)

pub returns : goal.returns
returns c =
    let test = is_beyond c.args.format c.args.century c.args.chains.now c.args.one c.args.other in
    let end : c.min-end.result ≡ min (length c.args.chains.now) (c.args.other + 496) = omega (arith, c.min-end.ensures) in
    let none = c.loop-far.invariant ∙ any-none test c.loop-far.far c.min-end.result c.loop-far-test.false in
    sym (ap (λ (e : ℕ). any_from test (c.args.other + 1) (e - (c.args.other + 1))) (sym end) ∙ none)
