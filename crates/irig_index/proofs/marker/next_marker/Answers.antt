use Rattle.std.proofs.Common.{◌≡◌, ◌+◌, ◌-◌, ◌∷◌, [], cond, true, false, length, slice_get, refl, ap, sym, ◌∙◌, arith}
use Rattle.std.proofs.lemmas.Bool.{and_parts}
use Rattle.irig_codes.specs.Width.{class_in}
use Rattle.irig_track.specs.Looks.{after_looks, lens_view}
use Rattle.irig_index.specs.{Frames.frame_at, Marker.class_at, Marker.follows, Marker.is_marker, Marker.is_position, Verdict.verdict_of}
use Rattle.irig_index.proofs.FrameLemmas.{position_class, record_after-pulses}
use Rattle.irig_index.proofs.PlaceLemmas.{none_more, one_passed, two_passed}
use Rattle.irig_track.proofs.Looks.{lens_next}
use Rattle.irig_index.proofs.marker.next_marker.Goals as goal

pub loop-next-init : goal.loop-next-init
loop-next-init c = record {
  order = omega arith;
  within = c.requires.order;
  few = omega arith;
  lens = refl;
  looks = refl;
  none = λ k from to. absurd (omega (arith, from, to));
}

pub pulse-pulse-requires : goal.pulse-pulse-requires
pulse-pulse-requires c =
    let inside = c.requires.within (omega (arith, c.loop-next.invariant.order)) in
    omega (arith, inside, ap (λ v. length v.track.pulses) c.loop-next.invariant.lens)

pub overflow_add-made : goal.overflow_add-made
overflow_add-made c =
    let inside = c.requires.within (omega (arith, c.loop-next.invariant.order)) in
    omega (arith, inside, c.loop-next.invariant.few, c.requires.track.few)

pub overflow_add-next-then-not-is_position : goal.overflow_add-next-then-not-is_position
overflow_add-next-then-not-is_position c =
    let inside = c.requires.within (omega (arith, c.loop-next.invariant.order)) in
    omega (arith, inside, c.requires.track.few)

pub loop-next-preserved-then-not-is_position : goal.loop-next-preserved-then-not-is_position
loop-next-preserved-then-not-is_position c =
    let f = c.args.format in
    let ps = c.args.lens.now.track.pulses in
    let place = c.loop-next.next in
    let next = c.min-next.result in
    let p = c.pulse-pulse.result in
    let so_far = c.loop-next.invariant in
    let here = ap (λ v. slice_get v.track.pulses (place + 1)) (sym so_far.lens) ∙ c.pulse-pulse.ensures.value in
    let other : is_position (class_at f p) ≡ false =
    ap (λ n. is_position (class_in n (p.fall - p.rise))) (sym c.interval-interval.ensures.value) ∙ (sym c.is_position.ensures ∙ c.if-not-is_position.true) in
    record {
      order = omega (arith, so_far.order);
      within = omega arith;
      few = omega (arith, so_far.few, so_far.order);
      lens = lens_next c.args.lens.now c.loop-next.lens _ c.loop-next.made so_far.lens c.pulse-pulse.ensures.counted;
      looks = so_far.looks;
      none = none_more f ps c.args.place place next so_far.none (two_passed f ps place next p here other (omega arith));
    }

pub overflow_add-made-in-loop-next : goal.overflow_add-made-in-loop-next
overflow_add-made-in-loop-next c =
    let inside = c.requires.within (omega (arith, c.loop-next.invariant.order)) in
    omega (arith, inside, c.loop-next.invariant.few, c.requires.track.few)

pub pulse-before-requires : goal.pulse-before-requires
pulse-before-requires c =
    let inside = c.requires.within (omega (arith, c.loop-next.invariant.order)) in
    omega (arith, inside, ap (λ v. length v.track.pulses) c.pulse-pulse.ensures.counted, ap (λ v. length v.track.pulses) c.loop-next.invariant.lens)

pub returns-then-is_marker-clause-passed : goal.returns-then-is_marker-clause-passed
returns-then-is_marker-clause-passed c =
    let so_far = c.loop-next.invariant in
    let first = lens_next c.args.lens.now c.loop-next.lens _ c.loop-next.made so_far.lens c.pulse-pulse.ensures.counted in
    let second = lens_next c.args.lens.now c.pulse-pulse.new.self _ (c.loop-next.made + 1) first c.pulse-before.ensures.counted in
    let made : c.loop-next.made + 1 + 1 ≡ c.loop-next.made + 2 = omega arith in
    record {
      order = so_far.order;
      looked = record {
        made = c.loop-next.made + 2;
        few = omega (arith, so_far.few);
        lens = second ∙ ap (λ n. lens_view c.args.lens.now.track (after_looks c.args.lens.now.looks n)) made;
        count = c.add_looks.ensures ∙ ap (λ n. after_looks n (c.loop-next.made + 2)) so_far.looks;
      };
      none = so_far.none;
    }

pub returns-then-is_marker-clause-found : goal.returns-then-is_marker-clause-found
returns-then-is_marker-clause-found c =
    let f = c.args.format in
    let ps = c.args.lens.now.track.pulses in
    let place = c.loop-next.next in
    let p = c.pulse-before.result in
    let q = c.pulse-pulse.result in
    let here = ap (λ v. slice_get v.track.pulses (place + 1)) (sym c.loop-next.invariant.lens) ∙ c.pulse-pulse.ensures.value in
    let seen = ap (λ v. v.track.pulses) c.pulse-pulse.ensures.counted ∙ ap (λ v. v.track.pulses) c.loop-next.invariant.lens in
    let before = ap (λ qs. slice_get qs place) (sym seen) ∙ c.pulse-before.ensures.value in
    let marks : is_marker f p q ≡ true = sym (c.is_marker.ensures f (sym c.interval-interval.ensures.value)) ∙ c.if-is_marker.true in
    let parts = and_parts (is_position (class_at f p)) _ marks in
    let position = and_parts (is_position (class_at f q)) (follows f p q) parts.1 in (
      omega arith,
      record {
        stands = here;
        position = position_class (class_at f q) position.0;
        record_is = record_after-pulses f ps place p q before here
            ∙ ap (λ b. cond b ((record { marker = place + 1; verdict = verdict_of f (frame_at ps (place + 1)) }) ∷ []) []) marks;
      },
    )

pub loop-next-preserved : goal.loop-next-preserved
loop-next-preserved c =
    let f = c.args.format in
    let ps = c.args.lens.now.track.pulses in
    let place = c.loop-next.next in
    let so_far = c.loop-next.invariant in
    let p = c.pulse-before.result in
    let q = c.pulse-pulse.result in
    let here = ap (λ v. slice_get v.track.pulses (place + 1)) (sym so_far.lens) ∙ c.pulse-pulse.ensures.value in
    let seen = ap (λ v. v.track.pulses) c.pulse-pulse.ensures.counted ∙ ap (λ v. v.track.pulses) so_far.lens in
    let before = ap (λ qs. slice_get qs place) (sym seen) ∙ c.pulse-before.ensures.value in
    let other : is_marker f p q ≡ false = sym (c.is_marker.ensures f (sym c.interval-interval.ensures.value)) ∙ c.if-is_marker.false in
    let none = record_after-pulses f ps place p q before here
    ∙ ap (λ b. cond b ((record { marker = place + 1; verdict = verdict_of f (frame_at ps (place + 1)) }) ∷ []) []) other in
    let first = lens_next c.args.lens.now c.loop-next.lens _ c.loop-next.made so_far.lens c.pulse-pulse.ensures.counted in
    let second = lens_next c.args.lens.now c.pulse-pulse.new.self _ (c.loop-next.made + 1) first c.pulse-before.ensures.counted in
    let made : c.loop-next.made + 1 + 1 ≡ c.loop-next.made + 2 = omega arith in
    record {
      order = omega (arith, so_far.order);
      within = omega arith;
      few = omega (arith, so_far.few, so_far.order);
      lens = second ∙ ap (λ n. lens_view c.args.lens.now.track (after_looks c.args.lens.now.looks n)) made;
      looks = so_far.looks;
      none = none_more f ps c.args.place place (place + 1) so_far.none (one_passed f ps place none);
    }

pub returns-clause-passed : goal.returns-clause-passed
returns-clause-passed c =
    let so_far = c.loop-next.invariant in
    let last : c.loop-next.next ≡ c.args.to = omega (arith, so_far.within) in
    record {
      order = c.requires.order;
      looked = record {
        made = c.loop-next.made;
        few = omega (arith, so_far.few, last);
        lens = so_far.lens;
        count = c.add_looks-2.ensures ∙ ap (λ n. after_looks n c.loop-next.made) so_far.looks;
      };
      none = λ k from to. so_far.none k from (omega (arith, to, last));
    }
