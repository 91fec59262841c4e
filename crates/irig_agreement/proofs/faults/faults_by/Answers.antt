use Rattle.std.proofs.Common.{◌≡◌, inl, inr, ℕ, false, List, [], slice_get, Some, sym, ap, ◌∙◌, subst}
use Rattle.std.proofs.lemmas.Option.{none-some}
use Rattle.irig_recording.specs.declared.pulse.Pulse.{Pulse}
use Rattle.irig_timed.specs.Knowns.{IsKnown}
use Rattle.irig_agreement.specs.{Agreement.IsAsked, Recorded.IsKept}
use Rattle.irig_agreement.specs.declared.fault.Fault.{Fault}
use Rattle.irig_agreement.proofs.ChangeFacts.{agrees-same, asked-same, faults-same}
use Rattle.irig_agreement.proofs.faults.faults_by.Goals as goal

pub add_faults-requires-clause-kept : goal.add_faults-requires-clause-kept
add_faults-requires-clause-kept c =
    subst (λ (q : List Pulse). IsKept q c.args.kept.now) (sym (ap (λ v. v.track.pulses) c.lens-before.ensures)) c.requires.kept

pub add_faults-requires-clause-known : goal.add_faults-requires-clause-known
add_faults-requires-clause-known c =
    subst (λ (q : List Pulse). IsKnown c.args.kept.now.format false c.args.kept.now.century q c.in_ok-known.known)
    (sym (ap (λ v. v.track.pulses) c.lens-after.ensures)) c.in_ok-known.ensures.known

pub add_faults-requires-clause-faults : goal.add_faults-requires-clause-faults
add_faults-requires-clause-faults c i x at =
    absurd (none-some x (ap (λ (l : List Fault). slice_get l i) (sym c.new-list.ensures.items) ∙ at))

pub add_faults-requires-clause-asked : goal.add_faults-requires-clause-asked
add_faults-requires-clause-asked c m h =
    let before = ap (λ v. v.track.pulses) c.lens-before.ensures in
    let after = ap (λ v. v.track.pulses) c.lens-after.ensures in
    asked-same c.args.kept.now.format c.args.kept.now.century _ _ _ _ (sym before) (sym after) m (inl h)

pub add_faults-requires-2-clause-kept : goal.add_faults-requires-2-clause-kept
add_faults-requires-2-clause-kept c =
    let before = ap (λ t. t.pulses) c.in_ok-add_faults.ensures.before ∙ ap (λ v. v.track.pulses) c.lens-before.ensures in
    subst (λ (q : List Pulse). IsKept q c.args.kept.now) (sym before) c.requires.kept

pub add_faults-requires-2-clause-known : goal.add_faults-requires-2-clause-known
add_faults-requires-2-clause-known c =
    let after = ap (λ t. t.pulses) c.in_ok-add_faults.ensures.after ∙ ap (λ v. v.track.pulses) c.lens-after.ensures in
    subst (λ (q : List Pulse). IsKnown c.args.kept.now.format false c.args.kept.now.century q c.in_ok-known.known) (sym after)
    c.in_ok-known.ensures.known

pub add_faults-requires-2-clause-faults : goal.add_faults-requires-2-clause-faults
add_faults-requires-2-clause-faults c =
    let one = c.in_ok-add_faults.ensures in
    let before = ap (λ t. t.pulses) one.before in
    let after = ap (λ t. t.pulses) one.after in
    faults-same c.args.kept.now.format c.args.kept.now.century _ _ _ _ (sym before) (sym after) c.add_faults.new.list.items one.faults

pub add_faults-requires-2-clause-asked : goal.add_faults-requires-2-clause-asked
add_faults-requires-2-clause-asked c m h =
    let one = c.in_ok-add_faults.ensures in
    let before = ap (λ t. t.pulses) one.before ∙ ap (λ v. v.track.pulses) c.lens-before.ensures in
    let after = ap (λ t. t.pulses) one.after ∙ ap (λ v. v.track.pulses) c.lens-after.ensures in
    asked-same c.args.kept.now.format c.args.kept.now.century _ _ _ _ (sym before) (sym after) m (inr h)

pub returns-clause-faults : goal.returns-clause-faults
returns-clause-faults c =
    let one = c.in_ok-add_faults.ensures in
    let two = c.in_ok-add_faults-2.ensures in
    let before = ap (λ t. t.pulses) one.before ∙ ap (λ v. v.track.pulses) c.lens-before.ensures in
    let after = ap (λ t. t.pulses) one.after ∙ ap (λ v. v.track.pulses) c.lens-after.ensures in
    faults-same c.args.kept.now.format c.args.kept.now.century _ _ _ _ before after c.add_faults-2.new.list.items two.faults

pub returns-clause-none : goal.returns-clause-none
returns-clause-none c e m asked =
    let f = c.args.kept.now.format in
    let century = c.args.kept.now.century in
    let one = c.in_ok-add_faults.ensures in
    let two = c.in_ok-add_faults-2.ensures in
    let before = ap (λ v. v.track.pulses) c.lens-before.ensures in
    let after = ap (λ v. v.track.pulses) c.lens-after.ensures in
    elim asked [
      | inl h ↦ agrees-same f century _ _ _ _ before after m ((one.none (two.none e).0).1 m h)
      | inr h ↦ agrees-same f century _ _ _ _ (ap (λ t. t.pulses) one.before ∙ before) (ap (λ t. t.pulses) one.after ∙ after) m
          ((two.none e).1 m h)
    ]
