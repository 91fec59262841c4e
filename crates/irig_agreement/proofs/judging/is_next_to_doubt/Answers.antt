use Rattle.std.proofs.Common.{◌<◌, ◌^◌, length, arith, sym, ap, ◌∙◌}
use Rattle.irig_agreement.proofs.DoubtLists.{next-to}
use Rattle.irig_agreement.proofs.judging.is_next_to_doubt.Goals as goal

pub returns-clause-pulses : goal.returns-clause-pulses
returns-clause-pulses c =
    let small : length c.args.pulses.now.track.pulses < 2 ^ 27 = omega (arith, c.find-risen.ensures.track.few) in
    ap (λ v. v.track) (c.find-risen.ensures.looked 27 small).lens

pub returns-clause-next : goal.returns-clause-next
returns-clause-next c f century frames are =
    let is = next-to f century c.args.pulses.now.track.pulses frames c.args.doubts.now are c.args.moment c.find-risen.result c.find-risen.ensures.count in
    (λ e. is.0 (sym c.is_next.ensures ∙ e), λ h. c.is_next.ensures ∙ is.1 h)
