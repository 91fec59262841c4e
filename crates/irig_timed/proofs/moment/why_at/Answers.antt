use Rattle.std.proofs.Common.{◌<◌, ◌^◌, length, arith, ap, ◌∙◌, subst}
use Rattle.irig_timed.specs.{Around.AreAround, Moments.IsElement, Reasons.reason_in}
use Rattle.irig_timed.proofs.MomentFacts.{known-by}
use Rattle.irig_timed.proofs.moment.why_at.Goals as goal

pub returns-clause-pulses : goal.returns-clause-pulses
returns-clause-pulses c =
    let small : length c.args.pulses.now.track.pulses < 2 ^ 27 = omega (arith, c.find-risen.ensures.track.few) in
    ap (λ v. v.track) (c.find-risen.ensures.looked 27 small).lens

pub returns-clause-why : goal.returns-clause-why
returns-clause-why c century believed held known =
    let f = c.args.format in
    let ps = c.args.pulses.now.track.pulses in
    let a = c.of-around.result in
    let lists = known-by f century ps believed held _ _ _ _ c.deref.ensures.value c.deref-2.ensures.value known.0 in
    let around = c.of-around.ensures.around f century ps believed held lists in
    record {
      from = a.from;
      to = a.to;
      around = subst (λ n. AreAround (IsElement f century ps believed) n a.from a.to) c.find-risen.ensures.count around.around;
      is = c.reason_in.ensures ∙ ap reason_in around.gap;
    }
