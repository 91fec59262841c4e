use Rattle.std.proofs.Common.{◌≡◌, ◌⊎◌, inl, inr, ◌≤◌, ◌+◌, ◌-◌, ℕ, Bool, true, false, List, length, get_or, slice_get, Some, arith, sym, ap, ◌∙◌, subst}
use Rattle.std.specs.Prelude.{◌↔◌}
use Rattle.std.proofs.lemmas.Option.{same_Some, slice_get_within}
use Rattle.irig_recording.specs.declared.pulse.Pulse.{Pulse}
use Rattle.irig_law.specs.Doubting.{IsDoubted}
use Rattle.irig_agreement.proofs.DoubtLists.{one-more}
use Rattle.irig_agreement.proofs.doubts.doubts_of.Goals as goal

pub loop-place-init : goal.loop-place-init
loop-place-init c =
    let empty = c.new-list.ensures.items in
    record {
      track = λ i. c.args.pulses.now.track;
      short = λ a at. (let many = ap (λ (l : List Bool). length l) empty in omega (arith, many));
      doubts = λ k. (
        λ e. (let none = ap (λ (l : List Bool). get_or l k false) empty in absurd (cc (e, none))),
        λ h. absurd (let less = h.1 in omega (arith, less)),
      );
    }

pub add_doubts-requires-clause-times : goal.add_doubts-requires-clause-times
add_doubts-requires-clause-times c =
    let are = c.requires.frames in (
      are.minute (c.loop-place.place - 1) c.frame_at-from.result c.frame_at-from.ensures,
      are.minute c.loop-place.place c.frame_at-to.result c.frame_at-to.ensures,
    )

pub add_doubts-requires-clause-order : goal.add_doubts-requires-clause-order
add_doubts-requires-clause-order c =
    let are = c.requires.frames in
    let place = c.loop-place.place in
    let next : place ≡ place - 1 + 1 = omega (arith, c.loop-place.auto.place) in
    let inside = are.inside place c.frame_at-to.result c.frame_at-to.ensures in (
      are.order (place - 1) c.frame_at-from.result c.frame_at-to.result c.frame_at-from.ensures
          (ap (λ i. slice_get c.args.frames.now i) (sym next) ∙ c.frame_at-to.ensures),
      omega (arith, inside, c.len-count.ensures.track.few),
    )

pub add_doubts-requires-clause-short : goal.add_doubts-requires-clause-short
add_doubts-requires-clause-short c = c.loop-place.invariant.short c.frame_at-from.result c.frame_at-from.ensures

pub loop-place-preserved : goal.loop-place-preserved
loop-place-preserved c =
    let f = c.args.format in
    let ps = c.args.pulses.now.track.pulses in
    let frames = c.args.frames.now in
    let inv = c.loop-place.invariant in
    let place = c.loop-place.place in
    let a = c.frame_at-from.result in
    let b = c.frame_at-to.result in
    let same : c.loop-place.pulses.track.pulses ≡ ps = ap (λ t. t.pulses) inv.track in
    let added = c.in_ok-add_doubts.ensures.doubts in
    let few : place + 1 - 1 ≡ place = omega arith in
    record {
      track = c.in_ok-add_doubts.ensures.pulses ∙ inv.track;
      short = λ d at. (let is : b ≡ d = same_Some b d (sym c.frame_at-to.ensures ∙ (ap (λ i. slice_get frames i) (sym few) ∙ at)) in
          subst (λ e. length c.add_doubts.new.list.items ≤ e.marker) is c.in_ok-add_doubts.ensures.short);
      doubts = λ k. (
          let here = subst (λ (q : List Pulse). (get_or c.add_doubts.new.list.items k false ≡ true)
          ↔ ((get_or c.loop-place.list.items k false ≡ true) ⊎ IsDoubted f c.args.century q a b k)) same (added k) in
          let more = one-more f c.args.century ps frames place k a b (omega (arith, c.loop-place.auto.place)) c.frame_at-from.ensures
          c.frame_at-to.ensures in
          let old = inv.doubts k in (
            λ e. more.0 (elim (here.0 e) [
              | inl was ↦ inl (old.0 was)
              | inr d ↦ inr d
            ]),
            λ h. here.1 (elim (more.1 h) [
              | inl was ↦ inl (old.1 was)
              | inr d ↦ inr d
            ]),
          ));
    }

pub returns-clause-doubts : goal.returns-clause-doubts
returns-clause-doubts c k =
    let is = c.loop-place.invariant.doubts k in
    let past = c.loop-place-test.false in (
      λ e. (is.0 e).0,
      λ d. is.1 (d, (let inside = slice_get_within c.args.frames.now (d.place + 1) d.other d.second in omega (arith, inside, past))),
    )
