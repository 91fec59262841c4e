use Rattle.std.proofs.Common.{◌<◌, ◌^◌, false, List, length, arith, sym, ap, ◌∙◌, subst}
use Rattle.irig_recording.specs.declared.pulse.Pulse.{Pulse}
use Rattle.irig_timed.specs.Knowns.{IsKnown}
use Rattle.irig_agreement.specs.Recorded.{IsKept}
use Rattle.irig_agreement.proofs.ChangeFacts.{agreed-same}
use Rattle.irig_agreement.proofs.agreed.agreed_from.Goals as goal

pub agreed_in-requires-clause-kept : goal.agreed_in-requires-clause-kept
agreed_in-requires-clause-kept c =
    let small : length c.args.before.now.track.pulses < 2 ^ 27 = omega (arith, c.find.ensures.track.few) in
    let track = ap (λ v. v.track) (c.find.ensures.looked 27 small).lens in
    subst (λ (q : List Pulse). IsKept q c.args.kept.now) (sym (ap (λ t. t.pulses) track)) c.requires.kept

pub agreed_in-requires-clause-known : goal.agreed_in-requires-clause-known
agreed_in-requires-clause-known c =
    let small : length c.args.after.now.track.pulses < 2 ^ 27 = omega (arith, c.find-2.ensures.track.few) in
    let track = ap (λ v. v.track) (c.find-2.ensures.looked 27 small).lens in
    subst (λ (q : List Pulse). IsKnown c.args.kept.now.format false c.args.kept.now.century q c.args.known.now) (sym (ap (λ t. t.pulses) track))
    c.requires.known

pub returns-in-Some-Some-clause-agreed : goal.returns-in-Some-Some-clause-agreed
returns-in-Some-Some-clause-agreed c =
    let small : length c.args.before.now.track.pulses < 2 ^ 27 = omega (arith, c.find.ensures.track.few) in
    let before = ap (λ v. v.track) (c.find.ensures.looked 27 small).lens in
    let small-too : length c.args.after.now.track.pulses < 2 ^ 27 = omega (arith, c.find-2.ensures.track.few) in
    let after = ap (λ v. v.track) (c.find-2.ensures.looked 27 small-too).lens in
    agreed-same c.args.kept.now.format c.args.kept.now.century _ _ _ _ (ap (λ t. t.pulses) before) (ap (λ t. t.pulses) after) c.agreed_in.result
    c.agreed_in.ensures.agreed

pub returns-in-Some-Some-clause-before : goal.returns-in-Some-Some-clause-before
returns-in-Some-Some-clause-before c =
    let small : length c.args.before.now.track.pulses < 2 ^ 27 = omega (arith, c.find.ensures.track.few) in
    c.agreed_in.ensures.before ∙ ap (λ v. v.track) (c.find.ensures.looked 27 small).lens

pub returns-in-Some-Some-clause-after : goal.returns-in-Some-Some-clause-after
returns-in-Some-Some-clause-after c =
    let small : length c.args.after.now.track.pulses < 2 ^ 27 = omega (arith, c.find-2.ensures.track.few) in
    c.agreed_in.ensures.after ∙ ap (λ v. v.track) (c.find-2.ensures.looked 27 small).lens

pub returns-in-Some-None-clause-before : goal.returns-in-Some-None-clause-before
returns-in-Some-None-clause-before c =
    let small : length c.args.before.now.track.pulses < 2 ^ 27 = omega (arith, c.find.ensures.track.few) in
    ap (λ v. v.track) (c.find.ensures.looked 27 small).lens

pub returns-in-Some-None-clause-after : goal.returns-in-Some-None-clause-after
returns-in-Some-None-clause-after c =
    let small : length c.args.after.now.track.pulses < 2 ^ 27 = omega (arith, c.find-2.ensures.track.few) in
    ap (λ v. v.track) (c.find-2.ensures.looked 27 small).lens

pub returns-in-None-Some-clause-before : goal.returns-in-None-Some-clause-before
returns-in-None-Some-clause-before c =
    let small : length c.args.before.now.track.pulses < 2 ^ 27 = omega (arith, c.find.ensures.track.few) in
    ap (λ v. v.track) (c.find.ensures.looked 27 small).lens

pub returns-in-None-Some-clause-after : goal.returns-in-None-Some-clause-after
returns-in-None-Some-clause-after c =
    let small : length c.args.after.now.track.pulses < 2 ^ 27 = omega (arith, c.find-2.ensures.track.few) in
    ap (λ v. v.track) (c.find-2.ensures.looked 27 small).lens

pub returns-in-None-None-clause-before : goal.returns-in-None-None-clause-before
returns-in-None-None-clause-before c =
    let small : length c.args.before.now.track.pulses < 2 ^ 27 = omega (arith, c.find.ensures.track.few) in
    ap (λ v. v.track) (c.find.ensures.looked 27 small).lens

pub returns-in-None-None-clause-after : goal.returns-in-None-None-clause-after
returns-in-None-None-clause-after c =
    let small : length c.args.after.now.track.pulses < 2 ^ 27 = omega (arith, c.find-2.ensures.track.few) in
    ap (λ v. v.track) (c.find-2.ensures.looked 27 small).lens
