use Rattle.std.proofs.Common.{List, subst, sym}
use Rattle.std.proofs.lemmas.Result.{IfOk-weaker}
use Rattle.std.specs.List.Sorted.{IsNonDecreasingBy}
use Rattle.irig_recording.specs.declared.pulse.Pulse.{Pulse}
use Rattle.irig_guarding.proofs.RisingPulses.{falls_in_order, rises_in_order}
use Rattle.irig_guarding.proofs.opening.pulses_of.Goals as goal

pub returns-clause-rising : goal.returns-clause-rising
returns-clause-rising c =
    let so = rises_in_order 0 c.args.session.now.state.pulses c.pulses.ensures.lawful.rises in
    IfOk-weaker c.pulses.result _ _ (λ ps all. subst (λ (l : List Pulse). IsNonDecreasingBy (λ (p : Pulse). p.rise) l) (sym all) so) c.pulses.ensures.all

pub returns-clause-falling : goal.returns-clause-falling
returns-clause-falling c =
    let so = falls_in_order 0 c.args.session.now.state.pulses c.pulses.ensures.lawful.rises in
    IfOk-weaker c.pulses.result _ _ (λ ps all. subst (λ (l : List Pulse). IsNonDecreasingBy (λ (p : Pulse). p.fall) l) (sym all) so) c.pulses.ensures.all
