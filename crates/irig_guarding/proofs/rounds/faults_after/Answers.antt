use Rattle.std.proofs.Common.{List, subst}
use Rattle.std.proofs.lemmas.Result.{IfOk-weaker}
use Rattle.irig_recording.specs.declared.pulse.Pulse.{Pulse}
use Rattle.irig_agreement.specs.{Agreement.Agree, Changes.IsFault}
use Rattle.irig_guarding.proofs.rounds.faults_after.Goals as goal

pub returns-clause-agree : goal.returns-clause-agree
returns-clause-agree c =
    let r = c.args.recorded.now in
    IfOk-weaker c.faults_in.result _ _
    (λ faults both none unmoved. subst (λ (ps : List Pulse). Agree r.format r.century r.pulses ps) c.in_ok-track.ensures (both.0 none))
    c.faults_in.ensures.agree

pub returns-clause-faults : goal.returns-clause-faults
returns-clause-faults c =
    let r = c.args.recorded.now in
    IfOk-weaker c.faults_in.result _ _
    (λ faults all i why e. subst (λ (ps : List Pulse). IsFault r.format r.century r.pulses ps why) c.in_ok-track.ensures (all i why e))
    c.faults_in.ensures.faults
