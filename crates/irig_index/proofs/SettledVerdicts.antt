-- The verdict on a frame rests on the pulses up to the next marker alone: a marker or the pulse before it fails within the frame before.
use Rattle.std.proofs.Common.{◌≡◌, ℕ, suc, zero, ◌+◌, ◌-◌, ◌%◌, ◌==◌, ◌<◌, ◌≤◌, true, false, cond, List, [], ◌∷◌, ◌++◌, length, get_or, Option, Some, None}
use Rattle.std.proofs.Common.{slice_get, refl, sym, ap, ap₂, ◌∙◌, ◌⊎◌, inl, inr, arith}
use Rattle.std.proofs.lemmas.{Bool.cases_Bool, Bool.cases_lt, Bool.eqb-true, Bool.ne_eqb, Option.none-some, Option.slice_get-get_or, Option.slice_get_within}
use Rattle.irig_codes.specs.Format.{FormatView}
use Rattle.irig_recording.specs.declared.pulse.Pulse.{Pulse}
use Rattle.irig_index.specs.declared.record.Cause.TheVariants.{Step, Class}
use Rattle.irig_index.specs.Verdict.{fault_at, fault_of, first_fault, judged, suits, verdict_of}
use Rattle.irig_index.specs.{declared.record.Cause.Cause, Frames.frame_at, Marker.class_at, Marker.follows, Marker.is_digit, Marker.is_position}
use Rattle.irig_index.proofs.VerdictLemmas.{fault-class, fault-step, first_fault-here, first_fault-next}
use Rattle.irig_index.proofs.{FrameLemmas.position_class, Window.take-drop-append}
use Rattle.irig_track.proofs.Items.{slice_get-part}

some_or_none : (o : Option Cause) → ((cause : Cause) × (o ≡ Some cause)) ⊎ (o ≡ None)
some_or_none (Some cause) = inl (cause, refl)
some_or_none None = inr refl

-- two frames that are the same up to a fault
module _ (f : FormatView) (w v : List Pulse) (j : ℕ) (cause : Cause) (fails : fault_at f j w ≡ Some cause) where
  judged_same : (n k : ℕ) → k ≤ j → j < k + n → ((i : ℕ) → k ≤ i → i ≤ j → fault_at f i w ≡ fault_at f i v)
      → judged f w (first_fault f w n k) ≡ judged f v (first_fault f v n k)
  judged_same zero k from to same = absurd (omega arith)
  judged_same (suc n) k from to same = elim (some_or_none (fault_at f k w)) [
    | inl here ↦
        ap (judged f w) (first_fault-here f w (suc n) n k refl here.0 here.1)
        ∙ sym (ap (judged f v) (first_fault-here f v (suc n) n k refl here.0 (sym (same k (omega arith) from) ∙ here.1)))
    | inr none ↦ elim (cases_lt k j) [
      | inl later ↦
          ap (judged f w) (first_fault-next f w (suc n) n k refl none)
          ∙ (judged_same n (k + 1) (omega arith) (omega arith) (λ i le up. same i (omega arith) up)
          ∙ sym (ap (judged f v) (first_fault-next f v (suc n) n k refl (sym (same k (omega arith) from) ∙ none))))
      | inr last ↦
          (let is : k ≡ j = omega arith in absurd (none-some cause (sym none ∙ (ap (λ i. fault_at f i w) is ∙ fails))))
    ]
  ]

-- a position identifier suits at 9, 19 .. 99 alone
no_suit : (f : FormatView) (k : ℕ) (p : Pulse) → is_position (class_at f p) ≡ true → (k % 10 == 9) ≡ false → suits k (class_at f p) ≡ false
no_suit f k p position other =
    ap (λ b. cond b (is_position (class_at f p)) (is_digit (class_at f p))) other ∙ ap is_digit (position_class (class_at f p) position)

not_nine_before : (k : ℕ) → k % 10 ≡ 9 → ((k - 1) % 10 == 9) ≡ false
not_nine_before k e = ne_eqb ((k - 1) % 10) 9 (λ same. omega (arith, e, same))

-- a frame fails at a place up to this one
record Fails (f : FormatView) (w : List Pulse) (most : ℕ) : Type 0 where
  at : ℕ
  cause : Cause
  after_marker : 1 ≤ at
  within : at ≤ most
  fails : fault_at f at w ≡ Some cause

module _ (f : FormatView) (ps : List Pulse) (i : ℕ) where
  fails_here : (k most : ℕ) (before p : Pulse) → 1 ≤ k → k < 100 → k ≤ most → slice_get ps (i + k - 1) ≡ Some before → slice_get ps (i + k) ≡ Some p
      → is_position (class_at f p) ≡ true → (k % 10 == 9) ≡ false → Fails f (frame_at ps i) most
  fails_here k most before p some few le stands_before stands position other = elim (cases_Bool (follows f before p)) [
    | inl on ↦ record {
      at = k;
      cause = Class;
      after_marker = some;
      within = le;
      fails = fault-class f ps i k before some few stands_before p stands on (no_suit f k p position other);
    }
    | inr off ↦ record {
      at = k;
      cause = Step;
      after_marker = some;
      within = le;
      fails = fault-step f ps i k before some few stands_before p stands off;
    }
  ]

  -- two position identifiers next to each other, the second one d pulses after the marker
  fails_by : (d : ℕ) (p q : Pulse) → 1 ≤ d → d < 100 → slice_get ps (i + d - 1) ≡ Some p → slice_get ps (i + d) ≡ Some q
      → is_position (class_at f p) ≡ true → is_position (class_at f q) ≡ true → Fails f (frame_at ps i) d
  fails_by d p q some few before here first second = elim (cases_Bool (d % 10 == 9)) [
    | inr other ↦ fails_here d d p q some few (omega arith) before here second other
    | inl same ↦
        let ninth = eqb-true (d % 10) 9 same in
        let inside = slice_get_within ps (i + d) q here in
        let r = get_or ps (i + (d - 1) - 1) q in
        let place : i + d - 1 ≡ i + (d - 1) = omega arith in
        fails_here (d - 1) d r p (omega (arith, ninth)) (omega arith) (omega arith)
        (slice_get-get_or ps (i + (d - 1) - 1) q (omega (arith, inside)))
        (ap (slice_get ps) (sym place) ∙ before) first (not_nine_before d ninth)
  ]

module _ {X : Type 0} where
  pub slice_get-front : (a z : List X) (i : ℕ) → i < length a → slice_get (a ++ z) i ≡ slice_get a i
  slice_get-front [] z i lt = absurd (omega arith)
  slice_get-front (x ∷ a) z zero lt = refl
  slice_get-front (x ∷ a) z (suc i) lt = slice_get-front a z i (omega arith)

  -- what two lists share
  pub slice_get-shared : (a x y : List X) (i : ℕ) → i < length a → slice_get (a ++ x) i ≡ slice_get (a ++ y) i
  slice_get-shared a x y i lt = slice_get-front a x i lt ∙ sym (slice_get-front a y i lt)

-- two tracks that begin with the same pulses
module _ (f : FormatView) (a x y : List Pulse) where
  slice_get-frame : (i k : ℕ) → k < 100 → i + k < length a → slice_get (frame_at (a ++ x) i) k ≡ slice_get (frame_at (a ++ y) i) k
  slice_get-frame i k few lt =
      slice_get-part 100 i (a ++ x) k (i + k) few refl
      ∙ (slice_get-shared a x y (i + k) lt ∙ sym (slice_get-part 100 i (a ++ y) k (i + k) few refl))

  fault_at-shared : (i k : ℕ) → k < 100 → i + k < length a → fault_at f k (frame_at (a ++ x) i) ≡ fault_at f k (frame_at (a ++ y) i)
  fault_at-shared i k few lt = ap₂ (fault_of f k) (slice_get-frame i (k - 1) (omega arith) (omega arith)) (slice_get-frame i k few lt)

  -- a frame that lies within them
  pub verdict-within : (i : ℕ) → i + 100 ≤ length a → verdict_of f (frame_at (a ++ x) i) ≡ verdict_of f (frame_at (a ++ y) i)
  verdict-within i le =
      ap (verdict_of f) (take-drop-append 100 i a x le ∙ sym (take-drop-append 100 i a y le))

  verdict-failing : (i d : ℕ) → d < 100 → i + d < length a → Fails f (frame_at (a ++ x) i) d
      → verdict_of f (frame_at (a ++ x) i) ≡ verdict_of f (frame_at (a ++ y) i)
  verdict-failing i d few within fault =
      judged_same f (frame_at (a ++ x) i) (frame_at (a ++ y) i) fault.at fault.cause fault.fails 99 1 fault.after_marker (omega (arith, fault.within))
      (λ k le up. fault_at-shared i k (omega (arith, fault.within)) (omega (arith, fault.within)))

  -- a frame after which a marker lies within them
  pub verdict-before : (i d : ℕ) (p q : Pulse) → 1 ≤ d → i + d < length a
      → slice_get (a ++ x) (i + d - 1) ≡ Some p → slice_get (a ++ x) (i + d) ≡ Some q
      → is_position (class_at f p) ≡ true → is_position (class_at f q) ≡ true
      → verdict_of f (frame_at (a ++ x) i) ≡ verdict_of f (frame_at (a ++ y) i)
  verdict-before i d p q some within before here first second = elim (cases_lt d 100) [
    | inl few ↦ verdict-failing i d few within (fails_by f (a ++ x) i d p q some few before here first second)
    | inr far ↦ verdict-within i (omega arith)
  ]
