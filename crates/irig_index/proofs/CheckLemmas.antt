-- No two pulses next to each other within a frame are both position identifiers: the next marker ends a check.
use Rattle.std.proofs.Common.{◌≡◌, ℕ, ◌+◌, ◌-◌, ◌%◌, ◌==◌, ◌<◌, ◌≤◌, true, false, cond, List, [], Option, Some, None, slice_get, refl, sym, ap, subst, ◌∙◌, ◌⊎◌}
use Rattle.std.proofs.Common.{inl, inr, arith}
use Rattle.std.proofs.lemmas.Bool.{cases_Bool, cases_lt, eqb-false, eqb-true, ne_eqb}
use Rattle.irig_codes.specs.declared.width.Element.TheVariants.{Zero, One, Position}
use Rattle.irig_codes.specs.{declared.width.Element.Element, Format.FormatView}
use Rattle.irig_recording.specs.declared.pulse.Pulse.{Pulse}
use Rattle.irig_index.specs.{Frames.record_after, Marker.class_at, Marker.is_digit, Marker.is_position, Verdict.suits}
use Rattle.irig_index.proofs.FrameLemmas.{record_after-beside, record_after-other}

-- a digit is no position identifier
digit_other : (class : Option Element) → is_digit class ≡ true → is_position class ≡ false
digit_other None e = cc
digit_other (Some Zero) e = refl
digit_other (Some One) e = refl
digit_other (Some Position) e = cc

-- how many digits are left a place further on
pub digits_next : (digits k : ℕ) → digits ≡ 9 - k % 10
    → cond (digits == 0) 9 (digits - 1) ≡ 9 - (k + 1) % 10
digits_next digits k e = elim (cases_Bool (digits == 0)) [
  | inl none ↦ ap (λ b. cond b 9 (digits - 1)) none ∙ omega (arith, e, eqb-true digits 0 none)
  | inr some ↦ ap (λ b. cond b 9 (digits - 1)) some ∙ omega (arith, e, eqb-false digits 0 some)
]

-- what suits if no position identifier may be there
pub suits_other : (k : ℕ) (class : Option Element) → suits k class ≡ true → (k % 10 ≡ 9 → ⊥) → is_position class ≡ false
suits_other k class suit ne = elim (cases_Bool (k % 10 == 9)) [
  | inl same ↦ absurd (ne (eqb-true (k % 10) 9 same))
  | inr other ↦ digit_other class (sym (ap (λ b. cond b (is_position class) (is_digit class)) other) ∙ suit)
]

-- two pulses are next to each other, and the second suits: one of them is no position identifier
pub beside_other : (k : ℕ) (before class : Option Element) → suits k class ≡ true → (k % 10 ≡ 9 → is_position before ≡ false)
    → (is_position before ≡ false) ⊎ (is_position class ≡ false)
beside_other k before class suit h = elim (cases_Bool (k % 10 == 9)) [
  | inl same ↦ inl (h (eqb-true (k % 10) 9 same))
  | inr other ↦ inr (suits_other k class suit (eqb-false (k % 10) 9 other))
]

-- there is no marker so far, nor at the next pulse, which suits
pub alone_next : (f : FormatView) (ps : List Pulse) (at k : ℕ) (p q : Pulse) → 1 ≤ k
    → slice_get ps (at + k - 1) ≡ Some p → slice_get ps (at + k) ≡ Some q
    → suits k (class_at f q) ≡ true → (k % 10 ≡ 9 → is_position (class_at f p) ≡ false)
    → ((j : ℕ) → at ≤ j → j + 1 < at + k → record_after f ps j ≡ [])
    → (j : ℕ) → at ≤ j → j + 1 < at + (k + 1) → record_after f ps j ≡ []
alone_next f ps at k p q some before here suit h alone j from to = elim (cases_lt j (at + k - 1)) [
  | inl less ↦ alone j from (omega arith)
  | inr ge ↦ let same : at + k - 1 ≡ j = omega arith in
      subst (λ i. record_after f ps i ≡ []) same (elim (beside_other k (class_at f p) (class_at f q) suit h) [
        | inl first ↦ record_after-beside f ps (at + k - 1) p before first
        | inr second ↦ (let place : at + k ≡ at + k - 1 + 1 = omega arith in
            record_after-other f ps (at + k - 1) q (ap (slice_get ps) (sym place) ∙ here) second)
      ])
]

-- a position identifier is due if no digit is left before it
pub is_due : (digits k : ℕ) → digits ≡ 9 - k % 10 → (digits == 0) ≡ (k % 10 == 9)
is_due digits k left = elim (cases_Bool (k % 10 == 9)) [
  | inl same ↦ (let none : digits ≡ 0 = omega (arith, eqb-true (k % 10) 9 same, left) in ap (λ n. n == 0) none ∙ sym same)
  | inr other ↦ ne_eqb digits 0 (λ none. eqb-false (k % 10) 9 other (omega (arith, left, none))) ∙ sym other
]
