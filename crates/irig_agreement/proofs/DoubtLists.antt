-- Lists of the pulses that are doubted.
use Rattle.std.proofs.Common.{◌≡◌, ◌⊎◌, inl, inr, ◌<◌, ◌≤◌, ◌+◌, ◌-◌, ℕ, zero, suc, Bool, true, false, List, [], ◌∷◌, ◌++◌, ◌&&◌, ◌||◌, length, get_or, slice_get, Some, arith, refl, sym, ap, ◌∙◌, subst}
use Rattle.std.specs.Prelude.{◌↔◌, nat_le, nat_lt}
use Rattle.std.proofs.lemmas.Bool.{and_parts, cases_lt, leb-true, lt-ltb, ltb-true}
use Rattle.std.proofs.lemmas.List.{get_or-append_right, get_or_append_left, get_or_past}
use Rattle.std.proofs.lemmas.Option.{same_Some, slice_get-get_or, slice_get_within}
use Rattle.irig_codes.specs.Format.{FormatView}
use Rattle.irig_recording.specs.declared.pulse.Pulse.{Pulse}
use Rattle.irig_law.specs.{Doubting.IsDoubted, declared.frame.Frame.Frame}
use Rattle.irig_agreement.specs.Doubts.{AreDoubts, IsDoubtedPulse, IsNextToDoubt, is_next}
use Rattle.irig_track.specs.Splices.{risen_by}

-- a pulse that is not doubted at the end of a list changes nothing
pub false-more : (xs : List Bool) (k : ℕ) → get_or (xs ++ false ∷ []) k false ≡ get_or xs k false
false-more [] zero = refl
false-more [] (suc k) = refl
false-more (x ∷ xs) zero = refl
false-more (x ∷ xs) (suc k) = false-more xs k

pub either : (a b : Bool) → a || b ≡ true → (a ≡ true) ⊎ (b ≡ true)
either true b e = inl refl
either false b e = inr e

pub or-left : (a b : Bool) → a ≡ true → a || b ≡ true
or-left true b e = refl
or-left false b e = absurd (cc e)

pub or-right : (a b : Bool) → b ≡ true → a || b ≡ true
or-right true b e = refl
or-right false b e = e

pub and-both : (a b : Bool) → a ≡ true → b ≡ true → a && b ≡ true
and-both true b e g = g
and-both false b e g = absurd (cc e)

module _ (f : FormatView) (century : ℕ) (ps : List Pulse) where
  -- a pulse that is doubted is between two frames
  pub doubted-inside : (a b : Frame) (k : ℕ) → IsDoubted f century ps a b k → (a.marker + 100 ≤ k) × (k < b.marker)
  doubted-inside a b k d =
      let first = and_parts _ _ d.is in
      let second = and_parts _ _ first.1 in
      (leb-true (a.marker + 100) k first.0, ltb-true k b.marker second.0)

  -- of the pulses before a frame, and from it on before the next one
  module _ (a b : Frame) (old xs ds : List Bool) (before : length xs ≡ a.marker) (short : length old ≤ a.marker)
      (same : (k : ℕ) → get_or xs k false ≡ get_or old k false) (many : length ds ≡ b.marker - a.marker)
      (each : (i : ℕ) (y : Bool) → slice_get ds i ≡ Some y → (y ≡ true) ↔ IsDoubted f century ps a b (a.marker + i)) (k : ℕ) where
    abbrev Joins : Type 0
    Joins = (get_or (xs ++ ds) k false ≡ true) ↔ ((get_or old k false ≡ true) ⊎ IsDoubted f century ps a b k)

    low : k < a.marker → Joins
    low less =
        let here = get_or_append_left xs ds false k (omega (arith, less, before)) ∙ same k in (
          λ e. inl (sym here ∙ e),
          λ o. elim o [
            | inl e ↦ here ∙ e
            | inr d ↦ (let from = (doubted-inside a b k d).0 in absurd (omega (arith, from, less)))
          ],
        )

    none : a.marker ≤ k → get_or old k false ≡ true → ⊥
    none le e = let past = get_or_past old k false (omega (arith, le, short)) in cc

    within : a.marker ≤ k → k - a.marker < length ds → Joins
    within le less =
        let here = get_or-append_right xs ds a.marker k false before le in
        let there = slice_get-get_or ds (k - a.marker) false less in
        let place : a.marker + (k - a.marker) ≡ k = omega (arith, le) in
        let is = subst (λ n. (get_or ds (k - a.marker) false ≡ true) ↔ IsDoubted f century ps a b n) place
        (each (k - a.marker) (get_or ds (k - a.marker) false) there) in (
          λ e. inr (is.0 (sym here ∙ e)),
          λ o. elim o [
            | inl e ↦ absurd (none le e)
            | inr d ↦ here ∙ is.1 d
          ],
        )

    past : a.marker ≤ k → length ds ≤ k - a.marker → Joins
    past le far =
        let here = get_or-append_right xs ds a.marker k false before le ∙ get_or_past ds (k - a.marker) false far in (
          λ e. absurd (cc (here, e)),
          λ o. elim o [
            | inl e ↦ absurd (none le e)
            | inr d ↦ (let to = (doubted-inside a b k d).1 in absurd (omega (arith, to, far, many, le)))
          ],
        )

    pub joins : Joins
    joins = elim (cases_lt k a.marker) [
      | inl less ↦ low less
      | inr le ↦ elim (cases_lt (k - a.marker) (length ds)) [
        | inl less ↦ within le less
        | inr far ↦ past le far
      ]
    ]

  -- the pulses that are doubted before some frame
  abbrev pub IsBefore : List Frame → ℕ → ℕ → Type 0
  IsBefore frames n k = (d : IsDoubtedPulse f century ps frames k) × (d.place + 1 < n)

  pub one-more : (frames : List Frame) (n k : ℕ) (a b : Frame) → 0 < n → slice_get frames (n - 1) ≡ Some a → slice_get frames n ≡ Some b
      → (IsBefore frames n k ⊎ IsDoubted f century ps a b k) ↔ IsBefore frames (n + 1) k
  one-more frames n k a b some first second = (
    λ o. elim o [
      | inl h ↦ (h.0, let less = h.1 in omega (arith, less))
      | inr d ↦ (
        record { place = n - 1; one = a; other = b; first = first; second = subst (λ i. slice_get frames i ≡ Some b) next second; is = d },
        omega (arith, some),
      )
    ],
    λ h. elim (cases_lt (h.0.place + 1) n) [
      | inl less ↦ inl (h.0, less)
      | inr far ↦ inr (last h.0 (let less = h.1 in omega (arith, less, far)))
    ],
  )
    where
      next : n ≡ n - 1 + 1
      next = omega (arith, some)

      last : (d : IsDoubtedPulse f century ps frames k) → d.place + 1 ≡ n → IsDoubted f century ps a b k
      last d here =
          let before : d.place ≡ n - 1 = omega (arith, here) in
          let one : d.one ≡ a = same_Some d.one a (sym d.first ∙ (ap (λ i. slice_get frames i) before ∙ first)) in
          let other : d.other ≡ b = same_Some d.other b (sym d.second ∙ (ap (λ i. slice_get frames i) here ∙ second)) in
          subst (λ (p : Frame). IsDoubted f century ps p b k) one (subst (λ (p : Frame). IsDoubted f century ps d.one p k) other d.is)

  -- which moments are next to one, by a list of them
  module _ (frames : List Frame) (doubts : List Bool) (are : AreDoubts f century ps frames doubts) (micros risen : ℕ) (is : risen ≡ risen_by micros ps) where
    pub next-to : (is_next doubts risen ≡ true) ↔ IsNextToDoubt f century ps frames micros
    next-to = (
      λ e. elim (either (get_or doubts risen false) (nat_lt 0 risen && get_or doubts (risen - 1) false) e) [
        | inl here ↦ record { pulse = risen; next = inr is; doubted = (are risen).0 here }
        | inr h ↦ (let parts = and_parts (nat_lt 0 risen) (get_or doubts (risen - 1) false) h in
            let some = ltb-true 0 risen parts.0 in
            record { pulse = risen - 1; next = inl (omega (arith, some, is)); doubted = (are (risen - 1)).0 parts.1 })
      ],
      λ h. elim h.next [
        | inl before ↦ (let place : h.pulse ≡ risen - 1 = omega (arith, before, is) in
            let there : get_or doubts (risen - 1) false ≡ true = ap (λ k. get_or doubts k false) (sym place) ∙ (are h.pulse).1 h.doubted in
            or-right (get_or doubts risen false) (nat_lt 0 risen && get_or doubts (risen - 1) false)
            (and-both (nat_lt 0 risen) (get_or doubts (risen - 1) false) (lt-ltb 0 risen (omega (arith, before, is))) there))
        | inr here ↦ (let place : h.pulse ≡ risen = here ∙ sym is in
            let there : get_or doubts risen false ≡ true = ap (λ k. get_or doubts k false) (sym place) ∙ (are h.pulse).1 h.doubted in
            or-left (get_or doubts risen false) (nat_lt 0 risen && get_or doubts (risen - 1) false) there)
      ],
    )
