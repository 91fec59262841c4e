use Rattle.std.proofs.Common.{◌≡◌, ◌≤◌, ◌+◌, ◌-◌, false, length, slice_get, Some, arith, sym, ap, ◌∙◌}
use Rattle.irig_timed.specs.{Held.held, Moments.frames_by}
use Rattle.irig_agreement.proofs.SameRuns.{agreed-span}
use Rattle.irig_agreement.proofs.agreed.agreed_in.Goals as goal

pub are_same-requires-clause-few : goal.are_same-requires-clause-few
are_same-requires-clause-few c =
    let first = c.requires.first in
    let second = c.requires.second in
    let run = c.requires.kept.known.0.are_runs.each first.at _ first.there in
    let other = c.requires.known.0.are_runs.each second.at _ second.there in
    (omega (arith, run.few, first.few, first.from), omega (arith, other.few, second.few, second.from))

pub are_same-requires-clause-low : goal.are_same-requires-clause-low
are_same-requires-clause-low c =
    let first = c.requires.first in
    let second = c.requires.second in
    let run = c.requires.kept.known.0.are_runs.each first.at _ first.there in
    let other = c.requires.known.0.are_runs.each second.at _ second.there in
    (omega (arith, run.few), omega (arith, other.few))

pub returns-clause-agreed : goal.returns-clause-agreed
returns-clause-agreed c =
    let f = c.args.kept.now.format in
    let century = c.args.kept.now.century in
    let old = c.args.before.now.track.pulses in
    let new = c.args.after.now.track.pulses in
    let h = c.requires.first in
    let g = c.requires.second in
    let known = c.requires.kept.known.0 in
    let known-too = c.requires.known.0 in
    let run = known.are_runs.each h.at _ h.there in
    let run-too = known-too.are_runs.each g.at _ g.there in
    let most = c.min-most.result in
    let many = c.alike-many.result in
    let is = c.min-most.ensures in
    let here : slice_get old c.args.one ≡ Some c.pulse.result =
    ap (λ t. slice_get t.pulses c.args.one) (sym c.alike-many.ensures.before) ∙ c.pulse.ensures.value in
    let track = ap (λ v. v.track) c.pulse.ensures.counted ∙ c.alike-many.ensures.before in
    let there : slice_get old (c.args.one + many - 1) ≡ Some c.pulse-2.result =
    ap (λ t. slice_get t.pulses (c.args.one + many - 1)) (sym track) ∙ c.pulse-2.ensures.value in
    let few : most ≤ c.args.first.now.count - (c.args.one - c.args.first.now.number) = omega (arith, is) in
    let few-too : most ≤ c.args.second.now.count - (c.args.other - c.args.second.now.number) = omega (arith, is) in
    agreed-span f century old new c.args.kept.now.known.runs.items c.args.known.now.runs.items c.args.kept.now.known.gaps.items
    c.args.known.now.gaps.items known known-too c.args.before.now.track.micros c.args.after.now.track.micros c.len-before.ensures.track
    c.len-after.ensures.track c.args.first.now c.args.second.now c.args.one c.args.other many most h g
    (c.are_same.ensures.0 c.if-not-are_same.false) few few-too c.alike-many.ensures.few c.alike-many.ensures.alike
    (omega (arith, few, run.inside, h.from, h.few)) (omega (arith, few-too, run-too.inside, g.from, g.few)) c.pulse.result c.pulse-2.result here there
    (omega (arith, c.if-many-eq0.false))
