use Rattle.std.proofs.Common.{◌≡◌, ◌+◌, ◌-◌, ◌<◌, ◌≤◌, ◌∷◌, ◌++◌, [], length, drop, slice_get, unwrap_or, true, false, cond, None, refl, ap, sym, ◌∙◌, arith}
use Rattle.std.proofs.Common.{take, List}
use Rattle.std.proofs.lemmas.{List.length-append, List.length-take, List.take_all, Option.slice_get_within}
use Rattle.irig_codes.specs.declared.width.Element.TheVariants.{Zero, Position}
use Rattle.irig_codes.specs.{declared.width.Element.Element, Decoding.decoded, Ones.raised, Reading.counts, Width.class_in, Width.step_in}
use Rattle.irig_track.specs.Looks.{after_looks, lens_view}
use Rattle.irig_index.specs.declared.record.Cause.TheVariants.{Ended, Step, Class}
use Rattle.irig_index.specs.{declared.record.Verdict.TheVariants.Broken, declared.record.Verdict.TheVariants.Read, Frames.frame_at, Marker.class_at}
use Rattle.irig_index.specs.{Marker.follows, Marker.is_digit, Marker.is_position, Verdict.elements_of, Verdict.first_fault, Verdict.judged, Verdict.suits}
use Rattle.irig_index.proofs.VerdictLemmas.{fault-ended, fault-step, fault-class, fault-none, elements-next, first_fault-here, first_fault-next}
use Rattle.irig_index.proofs.VerdictLemmas.{first_fault-zero}
use Rattle.irig_index.proofs.{CheckLemmas.alone_next, CheckLemmas.digits_next, CheckLemmas.is_due, CheckLemmas.suits_other, PulseLemmas.rise-rise}
use Rattle.irig_track.proofs.{Looks.lens_next, Items.slice_get-part}
use Rattle.irig_index.proofs.frame.check.Goals as goal

pub loop-k-init : goal.loop-k-init
loop-k-init c =
    let f = c.args.format in
    let w = frame_at c.args.lens.now.track.pulses c.args.at in
    let at_first = slice_get-part 100 c.args.at c.args.lens.now.track.pulses 0 c.args.at (omega arith) (omega arith) ∙ c.requires.first in
    let first_element = elements-next f w 0 c.args.first at_first ∙ ap (λ o. unwrap_or o Zero ∷ []) c.requires.position in
    record {
      lens = refl;
      before = (let same : c.args.at + 1 - 1 ≡ c.args.at = omega arith in ap (slice_get c.args.lens.now.track.pulses) same ∙ c.requires.first);
      long = ap (λ (xs : List Element). length xs) first_element;
      ones = ap (λ (xs : List Element). raised xs) first_element ∙ c.and-ones.ensures [] Position (omega arith) (sym c.none.ensures) refl;
      rest = refl;
      digits = refl;
      digit = λ nine. absurd (omega (arith, nine));
      alone = λ j from to. absurd (omega (arith, from, to));
    }

pub returns-then-count-lt-ELEMENTS-clause-verdict : goal.returns-then-count-lt-ELEMENTS-clause-verdict
returns-then-count-lt-ELEMENTS-clause-verdict c =
    let f = c.args.format in
    let ps = c.args.lens.now.track.pulses in
    let k = c.loop-k.k in
    let some : c.args.at + 1 ≤ length ps = omega (arith, slice_get_within ps c.args.at c.args.first c.requires.first) in
    let past : length ps ≤ c.args.at + k = omega (arith, some) in
    let within : k < 100 = omega (arith, some) in
    let reached : c.min-count.result ≡ k = omega (arith, some) in
    let fails = fault-ended f ps c.args.at k c.loop-k.before (omega arith) (omega (arith, within)) c.loop-k.invariant.before past in
    ap (λ n. Broken n Ended) reached ∙ sym (ap (judged f (frame_at ps c.args.at))
    (sym c.loop-k.invariant.rest ∙ first_fault-here f _ (100 - k) (99 - k) k (omega (arith, within)) Ended fails))

pub overflow_sub-pulse : goal.overflow_sub-pulse
overflow_sub-pulse c =
    let here = ap (λ v. slice_get v.track.pulses (c.args.at + c.loop-k.k)) (sym c.loop-k.invariant.lens) ∙ c.pulse-pulse.ensures.value in
    rise-rise 0 _ _ _ _ _ c.requires.track.rises c.loop-k.invariant.before here (omega arith)

pub returns-then-not-step_in-clause-verdict : goal.returns-then-not-step_in-clause-verdict
returns-then-not-step_in-clause-verdict c =
    let f = c.args.format in
    let ps = c.args.lens.now.track.pulses in
    let k = c.loop-k.k in
    let p = c.pulse-pulse.result in
    let here = ap (λ v. slice_get v.track.pulses (c.args.at + k)) (sym c.loop-k.invariant.lens) ∙ c.pulse-pulse.ensures.value in
    let off : follows f c.loop-k.before p ≡ false = ap (λ n. step_in n (p.rise - c.loop-k.before.rise)) (sym c.interval-interval.ensures.value)
    ∙ (sym c.step_in.ensures ∙ c.if-not-step_in.true) in
    let fails = fault-step f ps c.args.at k c.loop-k.before (omega arith) (omega arith) c.loop-k.invariant.before p here off in
    sym (ap (judged f (frame_at ps c.args.at)) (sym c.loop-k.invariant.rest ∙ first_fault-here f _ (100 - k) (99 - k) k (omega arith) Step fails))

pub returns-in_default-clause-verdict : goal.returns-in_default-clause-verdict
returns-in_default-clause-verdict c =
    let f = c.args.format in
    let ps = c.args.lens.now.track.pulses in
    let k = c.loop-k.k in
    let p = c.pulse-pulse.result in
    let interval = c.interval-interval.ensures.value in
    let here = ap (λ v. slice_get v.track.pulses (c.args.at + k)) (sym c.loop-k.invariant.lens) ∙ c.pulse-pulse.ensures.value in
    let on : follows f c.loop-k.before p ≡ true = ap (λ n. step_in n (p.rise - c.loop-k.before.rise)) (sym interval)
    ∙ (sym c.step_in.ensures ∙ c.if-not-step_in.false) in
    let due = is_due c.loop-k.digits k c.loop-k.invariant.digits in
    let off : suits k (class_at f p) ≡ false =
    (λ i. cond (sym due i) (is_position (class_in (sym interval i) (p.fall - p.rise))) (is_digit (class_in (sym interval i) (p.fall - p.rise))))
    ∙ c.in_default.ensures in
    let fails = fault-class f ps c.args.at k c.loop-k.before (omega arith) (omega arith) c.loop-k.invariant.before p here on off in
    sym (ap (judged f (frame_at ps c.args.at)) (sym c.loop-k.invariant.rest ∙ first_fault-here f _ (100 - k) (99 - k) k (omega arith) Class fails))

pub loop-k-preserved : goal.loop-k-preserved
loop-k-preserved c =
    let f = c.args.format in
    let ps = c.args.lens.now.track.pulses in
    let k = c.loop-k.k in
    let w = frame_at ps c.args.at in
    let p = c.pulse-pulse.result in
    let interval = c.interval-interval.ensures.value in
    let so_far = c.loop-k.invariant in
    let here = ap (λ v. slice_get v.track.pulses (c.args.at + k)) (sym so_far.lens) ∙ c.pulse-pulse.ensures.value in
    let on : follows f c.loop-k.before p ≡ true = ap (λ n. step_in n (p.rise - c.loop-k.before.rise)) (sym interval)
    ∙ (sym c.step_in.ensures ∙ c.if-not-step_in.false) in
    let due = is_due c.loop-k.digits k so_far.digits in
    let also : suits k (class_at f p) ≡ true =
    (λ i. cond (sym due i) (is_position (class_in (sym interval i) (p.fall - p.rise))) (is_digit (class_in (sym interval i) (p.fall - p.rise))))
    ∙ c.in-Some.ensures.0 in
    let sound = fault-none f ps c.args.at k c.loop-k.before (omega arith) (omega arith) so_far.before p here on also in
    let in_frame = slice_get-part 100 c.args.at ps k (c.args.at + k) (omega arith) refl ∙ here in
    let e : Element = unwrap_or (class_at f p) Zero in
    let gathered : List Element = elements_of f (take k w) in
    let grown : elements_of f (take (k + 1) w) ≡ gathered ++ (e ∷ []) = elements-next f w k p in_frame in
    let one : counts e ≡ c.in-Some.one = ap (λ n. counts (unwrap_or (class_in n (p.fall - p.rise)) Zero)) (sym interval) ∙ c.in-Some.ensures.1 in
    let next : c.args.at + (k + 1) - 1 ≡ c.args.at + k = omega arith in
    let fuel : 100 - (k + 1) ≡ 99 - k = omega arith in
    let made : k - 1 + 1 ≡ k + 1 - 1 = omega arith in
    record {
      lens = lens_next c.args.lens.now c.loop-k.lens _ (k - 1) so_far.lens c.pulse-pulse.ensures.counted
          ∙ ap (λ n. lens_view c.args.lens.now.track (after_looks c.args.lens.now.looks n)) made;
      before = ap (slice_get ps) next ∙ here;
      long = ap (λ (xs : List Element). length xs) grown ∙ (length-append gathered (e ∷ []) ∙ ap (λ n. n + 1) so_far.long);
      ones = ap (λ (xs : List Element). raised xs) grown ∙ c.and-ones-in-loop-k.ensures gathered e (omega (arith, so_far.long)) so_far.ones one;
      rest = ap (λ n. first_fault f w n (k + 1)) fuel ∙ (sym (first_fault-next f w (100 - k) (99 - k) k (omega arith) sound) ∙ so_far.rest);
      digits = c.in-Some.ensures.2 ∙ digits_next c.loop-k.digits k so_far.digits;
      digit = λ nine. suits_other k (class_at f p) also (λ same. omega (arith, nine, same));
      alone = alone_next f ps c.args.at k c.loop-k.before p (omega arith) so_far.before here also so_far.digit so_far.alone;
    }

pub returns-clause-verdict : goal.returns-clause-verdict
returns-clause-verdict c =
    let f = c.args.format in
    let k = c.loop-k.k in
    let w = frame_at c.args.lens.now.track.pulses c.args.at in
    let none : first_fault f w 99 1 ≡ None =
    (let done : 100 - k ≡ 0 = omega arith in
    sym c.loop-k.invariant.rest ∙ (ap (λ n. first_fault f w n k) done ∙ first_fault-zero f w k)) in
    let whole : k ≡ 100 = omega arith in
    let all : elements_of f (take k w) ≡ elements_of f w = ap (elements_of f)
    (take_all k w (omega (arith, length-take 100 (drop c.args.at c.args.lens.now.track.pulses)))) in
    let read = c.read.ensures.verdict (elements_of f (take k w)) (c.loop-k.invariant.long ∙ whole) c.loop-k.invariant.ones in
    read ∙ (ap (λ (xs : List Element). Read (decoded f xs).0 (decoded f xs).1) all ∙ sym (ap (judged f w) none))

pub returns-clause-looked : goal.returns-clause-looked
returns-clause-looked c =
    let made : c.loop-k.k - 1 ≡ 99 = omega arith in
    c.loop-k.invariant.lens ∙ ap (λ n. lens_view c.args.lens.now.track (after_looks c.args.lens.now.looks n)) (made ∙ sym c.read.ensures.looks)
