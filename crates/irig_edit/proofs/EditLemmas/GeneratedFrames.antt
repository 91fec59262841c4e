-- The pulses of a generated frame mean its elements, in step, and none of them fails.
use Rattle.std.proofs.Common.{◌≡◌, ◌≤◌, ◌<◌, ◌+◌, ◌-◌, ◌*◌, ◌%◌, ◌==◌, ◌||◌, ◌&&◌, ℕ, suc, zero, Bool, true, false, cond, List, ◌∷◌, length, take, drop, map}
use Rattle.std.proofs.Common.{get_or, slice_get, unwrap_or, Some, None, refl, ap, ap₂, sym, ◌∙◌, arith}
use Rattle.std.specs.List.{range_with_len}
use Rattle.std.proofs.lemmas.List.FromFn.{get_or-map-range_with_len}
use Rattle.std.proofs.lemmas.{Bool.and_parts, Bool.eqb-true, Bool.Decides.nat_tests, List.drop_more, Option.slice_get-get_or}
use Rattle.std.proofs.Math.Seq.{take-length}
use Rattle.irig_codes.specs.declared.width.Element.TheVariants.{Zero, One, Position}
use Rattle.irig_codes.specs.{declared.fields.Fields.Fields, declared.width.Element.Element, declared.note.Note.Note, declared.note.Note.TheVariants.Fine}
use Rattle.irig_codes.specs.{Decoding.decoded, Decoding.made_note, Encoding.encoded, Encoding.is_identifier, Encoding.is_set, Fields.fits_in, Format.FormatView}
use Rattle.irig_codes.specs.{Format.interval_of, Width.class_of, Width.is_in_step, Width.nominal_of}
use Rattle.irig_codes.proofs.{RoundTrip.decoded-encoded, WidthLemmas.class_of-nominal_of, WidthLemmas.is_in_step-interval_of}
use Rattle.irig_index.specs.Marker.{class_at, follows, is_digit, is_marker, is_position}
use Rattle.irig_index.specs.Verdict.{elements_of, fault_at, fault_of, suits, verdict_of}
use Rattle.irig_index.specs.{declared.record.Cause.TheVariants.Step, declared.record.Cause.TheVariants.Class, declared.record.Verdict.TheVariants.Read}
use Rattle.irig_index.proofs.FaultLaws.{read_where_none_fails}
use Rattle.irig_recording.specs.declared.pulse.Pulse.{Pulse}
use Rattle.irig_edit.specs.Edits.Regenerated.{index_point, element_pulse, frame_pulses}
use Rattle.irig_edit.proofs.EditLemmas.GeneratedPulses.{frame_many}

-- the pulse of an element means it
pub element_class : (f : FormatView) (start k : ℕ) (es : List Element) (e : ℕ)
    → class_at f (element_pulse f start k es e) ≡ Some (get_or es e Zero)
element_class f start k es e =
    let at = index_point f start k e in
    let width = nominal_of f (get_or es e Zero) in
    let wide : at + width - at ≡ width = omega arith in
    ap (class_of f) wide ∙ class_of-nominal_of f (get_or es e Zero)

-- the next element rises in step
pub element_follows : (f : FormatView) (start k l : ℕ) (es ds : List Element) (e d : ℕ)
    → 100 * l + d ≡ 100 * k + e + 1
    → follows f (element_pulse f start k es e) (element_pulse f start l ds d) ≡ true
element_follows f start k l es ds e d next =
    let i = interval_of f.kind in
    let more : (100 * k + e + 1) * i ≡ (100 * k + e) * i + i = omega arith in
    let point : start + (100 * l + d) * i ≡ start + (100 * k + e + 1) * i = ap (λ n. start + n * i) next in
    let apart : index_point f start l d - index_point f start k e ≡ i = omega (arith, more, point) in
    ap (is_in_step f) apart ∙ is_in_step-interval_of f

-- the pulse of an element within its frame
pub element_at : (f : FormatView) (start k : ℕ) (es : List Element) (e : ℕ) → e < 100
    → slice_get (frame_pulses f start k es) e ≡ Some (element_pulse f start k es e)
unfolding frame_pulses
element_at f start k es e within =
    let d : Pulse = record { rise = 0; fall = 0 } in
    let put = element_pulse f start k es in
    slice_get-get_or (map put (range_with_len 0 100)) e d (omega (arith, frame_many f start k es, within))
    ∙ ap (λ (p : Pulse). Some p) (get_or-map-range_with_len put 0 100 e e d within (omega arith))

-- the elements that the pulses of elements mean
elements_back : (f : FormatView) (start k : ℕ) (es : List Element) (n a : ℕ) → a + n ≤ length es
    → elements_of f (map (element_pulse f start k es) (range_with_len a n)) ≡ take n (drop a es)
elements_back f start k es zero a there = refl
elements_back f start k es (suc n) a there =
    let rest = elements_of f (map (element_pulse f start k es) (range_with_len (a + 1) n)) in
    ap (λ o. unwrap_or o Zero ∷ rest) (element_class f start k es a)
    ∙ ap (λ (xs : List Element). get_or es a Zero ∷ xs)
    (elements_back f start k es n (a + 1) (omega (arith, there)))
    ∙ ap (take (suc n)) (sym (drop_more es a Zero (omega (arith, there))))

-- what is at a place of the elements that carry fields
carried : (f : FormatView) (g : Fields) (e : ℕ) → e < 100
    → get_or (encoded f g) e Zero ≡ cond (is_identifier e) Position (cond (is_set f g e) One Zero)
carried f g e within =
    let put : ℕ → Element = λ d. cond (is_identifier d) Position (cond (is_set f g d) One Zero) in
    get_or-map-range_with_len put 0 100 e e Zero within (omega arith)

-- after the marker position identifiers are in their places, and binary digits elsewhere
suited : (e : ℕ) (set : Bool) → 1 ≤ e
    → suits e (Some (cond (is_identifier e) Position (cond set One Zero))) ≡ true
suited e set behind = by_test (e == 0) (e % 10 == 9) set first where
  first : (e == 0) ≡ false
  first = grind (arith, nat_tests)

  by_test : (start ninth set : Bool) → start ≡ false
      → (let class = Some (cond (start || ninth) Position (cond set One Zero)) in
      cond ninth (is_position class) (is_digit class) ≡ true)
  by_test true ninth set apart = absurd (let bad : true ≡ false = apart in cc)
  by_test false true set apart = refl
  by_test false false true apart = refl
  by_test false false false apart = refl

-- elements of a frame that carry fields, with nothing to note
pub record Tell (f : FormatView) (es : List Element) (g : Fields) : Type 0 where
  pub long : length es ≡ 100
  pub first : get_or es 0 Zero ≡ Position
  pub last : get_or es 99 Zero ≡ Position
  pub suit : (e : ℕ) → 1 ≤ e → e < 100 → suits e (Some (get_or es e Zero)) ≡ true
  pub reads : decoded f es ≡ (g, Fine)

-- those that carry fields do, if they can
pub carried_tell : (f : FormatView) (g : Fields) → fits_in f g ≡ true → made_note g ≡ Fine
    → Tell f (encoded f g) g
carried_tell f g fits fine = record {
  long = refl;
  first = carried f g 0 (omega arith);
  last = carried f g 99 (omega arith);
  suit = λ e behind within. ap (λ x. suits e (Some x)) (carried f g e within) ∙ suited e (is_set f g e) behind;
  reads = decoded-encoded f g fits ∙ ap (λ n. (g, n)) fine;
}

module _ (f : FormatView) (start k : ℕ) (es : List Element) (g : Fields) (tell : Tell f es g) where
  -- none of the pulses fails
  none_fails : (e : ℕ) → 1 ≤ e → e ≤ 99 → fault_at f e (frame_pulses f start k es) ≡ None
  none_fails e behind within =
      let before = element_at f start k es (e - 1) (omega arith) in
      let here = element_at f start k es e (omega arith) in
      let on = element_follows f start k k es es (e - 1) e (omega arith) in
      let also = ap (suits e) (element_class f start k es e) ∙ tell.suit e behind (omega arith) in
      ap₂ (fault_of f e) before here ∙ (λ i. cond (on i) (cond (also i) None (Some Class)) (Some Step))

  elements_are : elements_of f (frame_pulses f start k es) ≡ es
  unfolding frame_pulses
  elements_are =
      elements_back f start k es 100 0 (omega (arith, tell.long))
      ∙ ap (λ n. take n es) (sym tell.long) ∙ take-length es

  -- so the frame is read
  pub frame_reads : verdict_of f (frame_pulses f start k es) ≡ Read g Fine
  frame_reads =
      read_where_none_fails f (frame_pulses f start k es) none_fails
      ∙ ap (λ xs. Read (decoded f xs).0 (decoded f xs).1) elements_are
      ∙ ap (λ (p : Fields × Note). Read p.0 p.1) tell.reads

  -- after a pulse that is a position identifier, in step, it is a marker
  pub first_marks : (p : Pulse) → class_at f p ≡ Some Position
      → follows f p (element_pulse f start k es 0) ≡ true
      → is_marker f p (element_pulse f start k es 0) ≡ true
  first_marks p class on =
      let begins = element_class f start k es 0 ∙ ap Some tell.first in
      λ i. is_position (class i) && (is_position (begins i) && on i)

  -- a position identifier after the first pulse is at 9, 19 .. 99
  ninth : (e : ℕ) → 1 ≤ e → e < 100 → is_position (class_at f (element_pulse f start k es e)) ≡ true
      → e % 10 ≡ 9
  ninth e behind within is =
      let class = sym (ap is_position (element_class f start k es e)) ∙ is in
      eqb-true (e % 10) 9 (by_class (e % 10 == 9) (get_or es e Zero) (tell.suit e behind within) class) where
        by_class : (at : Bool) (x : Element) → cond at (is_position (Some x)) (is_digit (Some x)) ≡ true
            → is_position (Some x) ≡ true → at ≡ true
        by_class true x suit is = refl
        by_class false Zero suit is = is
        by_class false One suit is = is
        by_class false Position suit is = suit

  -- so none of the later pulses is a marker
  pub none_marks : (e : ℕ) → 1 ≤ e → e < 100
      → is_marker f (element_pulse f start k es (e - 1)) (element_pulse f start k es e) ≡ true → ⊥
  none_marks e behind within is =
      let ends = and_parts (is_position (class_at f (element_pulse f start k es (e - 1)))) _ is in
      let begins = and_parts (is_position (class_at f (element_pulse f start k es e))) _ ends.1 in
      let here = ninth e behind within begins.0 in
      let before = ninth (e - 1) (omega (arith, here)) (omega arith) ends.0 in
      omega (arith, here, before, behind)
