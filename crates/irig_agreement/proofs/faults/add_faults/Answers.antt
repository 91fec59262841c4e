use Rattle.std.proofs.Common.{◌≡◌, inl, inr, ◌<◌, ◌+◌, ◌-◌, ℕ, Bool, List, [], false, slice_get, Some, arith, refl, sym, ap, ◌∙◌, subst}
use Rattle.std.proofs.lemmas.Bool.{cases_lt}
use Rattle.std.proofs.lemmas.Option.{same_Some, slice_get_within}
use Rattle.irig_recording.specs.declared.pulse.Pulse.{Pulse}
use Rattle.irig_timed.specs.Knowns.{IsKnown}
use Rattle.irig_agreement.specs.{Agreement.Agrees, Agreement.IsAtRise, Recorded.IsKept}
use Rattle.irig_agreement.proofs.ChangeFacts.{agreed-same, agrees-same, asked-same, faults-same}
use Rattle.irig_agreement.proofs.faults.add_faults.Goals as goal

pub loop-number-init : goal.loop-number-init
loop-number-init c = record {
  before = refl;
  after = refl;
  faults = c.requires.faults;
  agreed = λ m from to. absurd (omega (arith, to));
  first = λ e. e;
  none = λ e k p less at. absurd (omega (arith, less));
}

pub add_fault-requires-clause-moment : goal.add_fault-requires-clause-moment
add_fault-requires-clause-moment c =
    let order = c.pulse-rise.ensures.order in
    omega (arith, order, c.pulse-rise.ensures.track.short, c.saturating_sub.ensures)

pub add_fault-requires-clause-kept : goal.add_fault-requires-clause-kept
add_fault-requires-clause-kept c =
    subst (λ (q : List Pulse). IsKept q c.args.kept.now) (sym (ap (λ t. t.pulses) c.loop-number.invariant.before)) c.requires.kept

pub add_fault-requires-clause-known : goal.add_fault-requires-clause-known
add_fault-requires-clause-known c =
    subst (λ (q : List Pulse). IsKnown c.args.kept.now.format false c.args.kept.now.century q c.args.known.now)
    (sym (ap (λ t. t.pulses) c.loop-number.invariant.after)) c.requires.known

pub add_fault-requires-clause-faults : goal.add_fault-requires-clause-faults
add_fault-requires-clause-faults c =
    let inv = c.loop-number.invariant in
    faults-same c.args.kept.now.format c.args.kept.now.century _ _ _ _ (sym (ap (λ t. t.pulses) inv.before)) (sym (ap (λ t. t.pulses) inv.after))
    c.loop-number.list.items inv.faults

pub add_fault-requires-clause-asked : goal.add_fault-requires-clause-asked
add_fault-requires-clause-asked c =
    let inv = c.loop-number.invariant in
    asked-same c.args.kept.now.format c.args.kept.now.century _ _ _ _ (sym (ap (λ t. t.pulses) inv.before)) (sym (ap (λ t. t.pulses) inv.after))
    c.saturating_sub.result
    (c.requires.asked c.saturating_sub.result (record {
      number = c.loop-number.number;
      pulse = c.pulse-rise.result;
      there = c.pulse-rise.ensures.value;
      is = inr c.saturating_sub.ensures;
    }))

pub add_fault-requires-in-loop-number-clause-moment : goal.add_fault-requires-in-loop-number-clause-moment
add_fault-requires-in-loop-number-clause-moment c =
    let order = c.pulse-rise.ensures.order in
    omega (arith, order, c.pulse-rise.ensures.track.short)

pub add_fault-requires-clause-agreed : goal.add_fault-requires-clause-agreed
add_fault-requires-clause-agreed c =
    let inv = c.loop-number.invariant in
    agreed-same c.args.kept.now.format c.args.kept.now.century _ _ _ _ (sym (ap (λ t. t.pulses) inv.before)) (sym (ap (λ t. t.pulses) inv.after))
    c.loop-number.agreed inv.agreed

pub agreed_at-agreed-requires-clause-kept : goal.agreed_at-agreed-requires-clause-kept
agreed_at-agreed-requires-clause-kept c =
    let same = ap (λ t. t.pulses) (c.in_ok-add_fault.ensures.before ∙ c.loop-number.invariant.before) in
    subst (λ (q : List Pulse). IsKept q c.args.kept.now) (sym same) c.requires.kept

pub agreed_at-agreed-requires-clause-known : goal.agreed_at-agreed-requires-clause-known
agreed_at-agreed-requires-clause-known c =
    subst (λ (q : List Pulse). IsKnown c.args.kept.now.format false c.args.kept.now.century q c.args.known.now)
    (sym (ap (λ t. t.pulses) (c.in_ok-add_fault.ensures.after ∙ c.loop-number.invariant.after))) c.requires.known

pub agreed_at-agreed-requires-clause-agreed : goal.agreed_at-agreed-requires-clause-agreed
agreed_at-agreed-requires-clause-agreed c =
    let inv = c.loop-number.invariant in
    let one = c.in_ok-add_fault.ensures in
    agreed-same c.args.kept.now.format c.args.kept.now.century _ _ _ _ (sym (ap (λ t. t.pulses) (one.before ∙ inv.before)))
    (sym (ap (λ t. t.pulses) (one.after ∙ inv.after))) c.loop-number.agreed inv.agreed

pub add_fault-requires-in-loop-number-clause-kept : goal.add_fault-requires-in-loop-number-clause-kept
add_fault-requires-in-loop-number-clause-kept c =
    let same = ap (λ t. t.pulses) (c.agreed_at-agreed.ensures.before ∙ (c.in_ok-add_fault.ensures.before ∙ c.loop-number.invariant.before)) in
    subst (λ (q : List Pulse). IsKept q c.args.kept.now) (sym same) c.requires.kept

pub add_fault-requires-in-loop-number-clause-known : goal.add_fault-requires-in-loop-number-clause-known
add_fault-requires-in-loop-number-clause-known c =
    let same = ap (λ t. t.pulses) (c.agreed_at-agreed.ensures.after ∙ (c.in_ok-add_fault.ensures.after ∙ c.loop-number.invariant.after)) in
    subst (λ (q : List Pulse). IsKnown c.args.kept.now.format false c.args.kept.now.century q c.args.known.now) (sym same) c.requires.known

pub add_fault-requires-in-loop-number-clause-faults : goal.add_fault-requires-in-loop-number-clause-faults
add_fault-requires-in-loop-number-clause-faults c =
    let one = c.in_ok-add_fault.ensures in
    let mid = c.agreed_at-agreed.ensures in
    faults-same c.args.kept.now.format c.args.kept.now.century _ _ _ _ (sym (ap (λ t. t.pulses) (mid.before ∙ one.before)))
    (sym (ap (λ t. t.pulses) (mid.after ∙ one.after))) c.add_fault.new.list.items one.faults

pub add_fault-requires-in-loop-number-clause-agreed : goal.add_fault-requires-in-loop-number-clause-agreed
add_fault-requires-in-loop-number-clause-agreed c =
    let mid = c.agreed_at-agreed.ensures in
    agreed-same c.args.kept.now.format c.args.kept.now.century _ _ _ _ (sym (ap (λ t. t.pulses) mid.before)) (sym (ap (λ t. t.pulses) mid.after))
    c.agreed_at-agreed.result mid.agreed

pub add_fault-requires-in-loop-number-clause-asked : goal.add_fault-requires-in-loop-number-clause-asked
add_fault-requires-in-loop-number-clause-asked c =
    let inv = c.loop-number.invariant in
    let one = c.in_ok-add_fault.ensures in
    let mid = c.agreed_at-agreed.ensures in
    asked-same c.args.kept.now.format c.args.kept.now.century _ _ _ _ (sym (ap (λ t. t.pulses) (mid.before ∙ (one.before ∙ inv.before))))
    (sym (ap (λ t. t.pulses) (mid.after ∙ (one.after ∙ inv.after)))) c.pulse-rise.result.rise
    (c.requires.asked c.pulse-rise.result.rise
    (record { number = c.loop-number.number; pulse = c.pulse-rise.result; there = c.pulse-rise.ensures.value; is = inl refl }))

pub loop-number-preserved : goal.loop-number-preserved
loop-number-preserved c =
    let f = c.args.kept.now.format in
    let old = c.args.before.now.track.pulses in
    let new = c.args.after.now.track.pulses in
    let inv = c.loop-number.invariant in
    let one = c.in_ok-add_fault.ensures in
    let mid = c.agreed_at-agreed.ensures in
    let two = c.in_ok-add_fault-2.ensures in
    let k = c.loop-number.number in
    let before-mid = one.before ∙ inv.before in
    let after-mid = one.after ∙ inv.after in
    let before = mid.before ∙ before-mid in
    let after = mid.after ∙ after-mid in
    record {
      before = two.before ∙ before;
      after = two.after ∙ after;
      faults = faults-same f c.args.kept.now.century _ old _ new (ap (λ t. t.pulses) before) (ap (λ t. t.pulses) after)
          c.add_fault-in-loop-number.new.list.items two.faults;
      agreed = agreed-same f c.args.kept.now.century _ old _ new (ap (λ t. t.pulses) before-mid) (ap (λ t. t.pulses) after-mid)
          c.agreed_at-agreed.result mid.agreed;
      first = λ e. inv.first (one.none (two.none e).0).0;
      none = λ e j p less at. elim (cases_lt j k) [
        | inl lower ↦ inv.none (one.none (two.none e).0).0 j p lower at
        | inr high ↦ (let here : k ≡ j = omega (arith, less, high) in
            let there = sym c.pulse-rise.ensures.value ∙ (ap (λ i. slice_get c.args.rises.now.pulses i) here ∙ at) in
            let same : c.pulse-rise.result ≡ p = same_Some c.pulse-rise.result p there in
            let earlier = c.saturating_sub.ensures ∙ ap (λ (q : Pulse). q.rise - 1) same in (
              subst (λ m. Agrees f c.args.kept.now.century old new m) earlier
                  (agrees-same f c.args.kept.now.century _ old _ new (ap (λ t. t.pulses) inv.before) (ap (λ t. t.pulses) inv.after) c.saturating_sub.result
                  (one.none (two.none e).0).1),
              subst (λ (q : Pulse). Agrees f c.args.kept.now.century old new q.rise) same
                  (agrees-same f c.args.kept.now.century _ old _ new (ap (λ t. t.pulses) before) (ap (λ t. t.pulses) after)
                  c.pulse-rise.result.rise (two.none e).1),
            ))
      ];
    }

pub returns-clause-none : goal.returns-clause-none
returns-clause-none c e = (
  c.loop-number.invariant.first e,
  λ m h. (let inside = slice_get_within c.args.rises.now.pulses h.number h.pulse h.there in
      let less : h.number < c.loop-number.number = omega (arith, inside, c.loop-number-test.false, c.len-number-end.ensures.len) in
      let both = c.loop-number.invariant.none e h.number h.pulse less h.there in
      let at = Agrees c.args.kept.now.format c.args.kept.now.century c.args.before.now.track.pulses c.args.after.now.track.pulses in
      elim h.is [
        | inl here ↦ subst at (sym here) both.1
        | inr earlier ↦ subst at (sym earlier) both.0
      ]),
)
