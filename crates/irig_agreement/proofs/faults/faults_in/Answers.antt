use Rattle.std.proofs.Common.{◌≡◌, [], subst}
use Rattle.std.specs.Prelude.{◌↔◌}
use Rattle.irig_agreement.specs.{Agreement.Agree, Changes.AreFaults, Recorded.RecordedView}
use Rattle.irig_agreement.proofs.ChangeFacts.{no-faults}
use Rattle.irig_agreement.proofs.faults.faults_in.Goals as goal

pub returns-clause-faults : goal.returns-clause-faults
returns-clause-faults c =
    subst (λ (v : RecordedView). AreFaults v.format v.century v.pulses c.args.track.now.pulses c.in_ok-list.list.items) c.recorded.view_is
    c.in_ok-list.ensures.faults

pub returns-clause-agree : goal.returns-clause-agree
returns-clause-agree c =
    let list = c.in_ok-list.list.items in
    let kept = c.recorded.inside.kept in
    let old = c.recorded.inside.track.pulses in
    let new = c.args.track.now.pulses in
    subst (λ (v : RecordedView). (list ≡ []) ↔ Agree v.format v.century v.pulses new) c.recorded.view_is
    (c.in_ok-list.ensures.none, λ agree. no-faults kept.format kept.century old new agree list c.in_ok-list.ensures.faults)
