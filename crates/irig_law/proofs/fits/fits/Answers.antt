use Rattle.std.proofs.Common.{◌≡◌, inl, inr, ℕ, sym, ◌∙◌, subst}
use Rattle.std.proofs.lemmas.Bool.{both_ways}
use Rattle.std.proofs.lemmas.Option.{same_Some}
use Rattle.irig_law.specs.Fits.{IsBridged, Meets, last_after, last_before}
use Rattle.irig_law.specs.declared.names.Walk.{Walk}
use Rattle.irig_law.proofs.LastNamed.{is-last-after, is-last-before}
use Rattle.irig_law.proofs.Meeting.{meets-at, met-at}
use Rattle.irig_law.proofs.fits.fits.Goals as goal

pub returns-then-is_bridged-clause-fits : goal.returns-then-is_bridged-clause-fits
returns-then-is_bridged-clause-fits c =
    let r = c.requires in
    let f = c.args.format in
    let ps = c.args.pulses.now.track.pulses in
    let a = c.args.from.now in
    let b = c.args.to.now in
    let last = is-last-after f ps a b c.args.after.now c.args.before.now r.order.0 r.after r.before r.long r.long_too c.last_named-last.result
    c.last_named-last.ensures.last in
    let first = is-last-before f ps a b c.args.after.now c.args.before.now r.order.0 r.after r.before r.long r.long_too c.last_named-first.result
    c.last_named-first.ensures.last in
    record {
      times = sym c.periods_apart.ensures.periods ∙ c.in-Some.is;
      clock = inl (subst (λ (w : Walk). IsBridged ps a b c.in-Some.periods w (last_before f ps a b)) last
          (subst (λ (v : Walk). IsBridged ps a b c.in-Some.periods c.last_named-last.result v) first
          (c.is_bridged.ensures.bridged.0 c.if-is_bridged.true)));
    }

pub returns-then-meet-clause-fits : goal.returns-then-meet-clause-fits
returns-then-meet-clause-fits c =
    let r = c.requires in
    record {
      times = sym c.periods_apart.ensures.periods ∙ c.in-Some.is;
      clock = inr (meets-at c.args.format c.args.pulses.now.track.pulses c.args.from.now c.args.to.now c.args.after.now c.args.before.now
          c.in-Some.periods r.order.0 r.after r.before r.long r.long_too (c.meet.ensures.0 c.if-meet.true));
    }

pub returns-clause-fits : goal.returns-clause-fits
returns-clause-fits c n fit =
    let r = c.requires in
    let f = c.args.format in
    let ps = c.args.pulses.now.track.pulses in
    let a = c.args.from.now in
    let b = c.args.to.now in
    let same : n ≡ c.in-Some.periods =
    same_Some n c.in-Some.periods (sym fit.times ∙ (sym c.periods_apart.ensures.periods ∙ c.in-Some.is)) in
    let last = is-last-after f ps a b c.args.after.now c.args.before.now r.order.0 r.after r.before r.long r.long_too c.last_named-last.result
    c.last_named-last.ensures.last in
    let first = is-last-before f ps a b c.args.after.now c.args.before.now r.order.0 r.after r.before r.long r.long_too c.last_named-first.result
    c.last_named-first.ensures.last in
    elim fit.clock [
      | inl long ↦ both_ways c.is_bridged.result c.if-is_bridged.false (c.is_bridged.ensures.bridged.1
          (subst (λ (v : Walk). IsBridged ps a b c.in-Some.periods c.last_named-last.result v) (sym first)
          (subst (λ (w : Walk). IsBridged ps a b c.in-Some.periods w (last_before f ps a b)) (sym last)
          (subst (λ (m : ℕ). IsBridged ps a b m (last_after f ps a b) (last_before f ps a b)) same long))))
      | inr met ↦ both_ways c.meet.result c.if-meet.false (c.meet.ensures.1 (met-at f ps a b c.args.after.now c.args.before.now
          c.in-Some.periods r.order.0 r.after r.before r.long r.long_too (subst (λ (m : ℕ). Meets f ps a b m) same met)))
    ]
