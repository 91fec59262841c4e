-- Whether one of some frames is doubtful, one after the other.
use Rattle.std.proofs.Common.{◌≡◌, inl, inr, ◌<◌, ◌≤◌, ◌+◌, ◌&&◌, ◌||◌, ℕ, zero, suc, not, Bool, true, false, List, [], ◌∷◌, length, drop, slice_get, Option, Some, None, arith, refl, sym, ap, ◌∙◌}
use Rattle.std.specs.Prelude.{is_some}
use Rattle.std.proofs.lemmas.Bool.{cases_lt, le-ltb, lt-ltb}
use Rattle.std.proofs.lemmas.Option.{same_Some}
use Rattle.irig_codes.specs.Format.{FormatView}
use Rattle.irig_index.specs.declared.record.Record.{Record}
use Rattle.irig_times.specs.{FrameLooks.MarkersRise, Times.timed}
use Rattle.irig_timed.proofs.Lists.{drop-at, drop-end}
use Rattle.irig_timed.specs.Reasons.{has_doubtful, is_after, is_before, is_doubtful}
use Rattle.irig_timed.specs.declared.run.Place.{Place}

third : (x y : Bool) → (x && (y && false)) ≡ false
third true true = refl
third true false = refl
third false y = refl

fourth : (x y z : Bool) → (x && (y && (z && false))) ≡ false
fourth true true true = refl
fourth true true false = refl
fourth true false z = refl
fourth false y z = refl

module _ (f : FormatView) (from to : Option Place) where
  not-after : (r : Record) (h : Bool) → is_after from r.marker ≡ false → is_doubtful f from to r h ≡ false
  not-after r h off =
      ap (λ a. not h && (is_some (timed f r.verdict) && (a && is_before to r.marker))) off ∙ third (not h) (is_some (timed f r.verdict))

  not-before : (r : Record) (h : Bool) → is_before to r.marker ≡ false → is_doubtful f from to r h ≡ false
  not-before r h off =
      ap (λ b. not h && (is_some (timed f r.verdict) && (is_after from r.marker && b))) off
      ∙ fourth (not h) (is_some (timed f r.verdict)) (is_after from r.marker)

  none-held : (rs : List Record) → has_doubtful f from to rs [] ≡ false
  none-held [] = refl
  none-held (r ∷ rs) = refl

  -- the first ones are not after a place
  pub skip : (n : ℕ) (rs : List Record) (held : List Bool)
      → ((i : ℕ) (r : Record) → slice_get rs i ≡ Some r → i < n → is_after from r.marker ≡ false)
      → has_doubtful f from to rs held ≡ has_doubtful f from to (drop n rs) (drop n held)
  skip zero rs held early = refl
  skip (suc n) [] held early = refl
  skip (suc n) (r ∷ rs) [] early = sym (none-held (drop n rs))
  skip (suc n) (r ∷ rs) (h ∷ held) early =
      ap (λ b. b || has_doubtful f from to rs held) (not-after r h (early 0 r refl (omega arith)))
      ∙ skip n rs held (λ i s at less. early (suc i) s at (omega (arith, less)))

  -- none of some is before another place
  pub past : (rs : List Record) (held : List Bool) → ((i : ℕ) (r : Record) → slice_get rs i ≡ Some r → is_before to r.marker ≡ false)
      → has_doubtful f from to rs held ≡ false
  past [] held late = refl
  past (r ∷ rs) [] late = refl
  past (r ∷ rs) (h ∷ held) late =
      ap (λ b. b || has_doubtful f from to rs held) (not-before r h (late 0 r refl)) ∙ past rs held (λ i s at. late (suc i) s at)

  -- one more
  pub next : (rs : List Record) (held : List Bool) (k : ℕ) (r : Record) (h : Bool) → slice_get rs k ≡ Some r → slice_get held k ≡ Some h
      → has_doubtful f from to (drop k rs) (drop k held)
      ≡ is_doubtful f from to r h || has_doubtful f from to (drop (k + 1) rs) (drop (k + 1) held)
  next rs held k r h at at_too = λ i. has_doubtful f from to (drop-at Record rs k r at i) (drop-at Bool held k h at_too i)

  pub ended : (rs : List Record) (held : List Bool) (k : ℕ) → length rs ≤ k → has_doubtful f from to (drop k rs) (drop k held) ≡ false
  ended rs held k le = ap (λ (l : List Record). has_doubtful f from to l (drop k held)) (drop-end Record rs k le)

later-not : (to : Option Place) (k m : ℕ) → k < m → is_before to k ≡ false → is_before to m ≡ false
later-not None k m less off = off
later-not (Some q) k m less off = elim (cases_lt k q.number) [
  | inl before ↦ absurd (cc (off, lt-ltb k q.number before))
  | inr ge ↦ le-ltb m q.number (omega (arith, ge, less))
]

drop-get : (A : Type 0) (xs : List A) (k i : ℕ) → slice_get (drop k xs) i ≡ slice_get xs (k + i)
drop-get A xs zero i = (let e : i ≡ 0 + i = omega arith in ap (λ j. slice_get xs j) e)
drop-get A [] (suc k) i = refl
drop-get A (x ∷ xs) (suc k) i = (let e : suc (k + i) ≡ suc k + i = omega arith in drop-get A xs k i ∙ ap (λ j. slice_get (x ∷ xs) j) e)

-- a record that is not before a place, and all later ones
pub all-past : (f : FormatView) (from to : Option Place) (rs : List Record) (held : List Bool) → MarkersRise rs → (k : ℕ) (r : Record)
    → slice_get rs k ≡ Some r → is_before to r.marker ≡ false → has_doubtful f from to (drop k rs) (drop k held) ≡ false
all-past f from to rs held rise k r at off = past f from to (drop k rs) (drop k held) (λ i s there. each i s (sym (drop-get Record rs k i) ∙ there))
  where
    each : (i : ℕ) (s : Record) → slice_get rs (k + i) ≡ Some s → is_before to s.marker ≡ false
    each zero s there =
        let e : k + 0 ≡ k = omega arith in
        let same = same_Some s r (sym there ∙ (ap (λ j. slice_get rs j) e ∙ at)) in
        ap (λ (z : Record). is_before to z.marker) same ∙ off
    each (suc i) s there = later-not to r.marker s.marker (rise k (k + suc i) r s at there (omega arith)) off
