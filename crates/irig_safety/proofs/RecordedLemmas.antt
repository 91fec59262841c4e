-- A search among recorded pulses.
use Rattle.std.proofs.Common.{◌≡◌, ◌+◌, ◌-◌, ◌<◌, ◌≤◌, ℕ, Bool, zero, suc, List, Some, ◌∙◌, get_or, inl, inr, length, slice_get, arith, sym, subst, ap}
use Rattle.std.specs.Prelude.{◌⊎◌}
use Rattle.std.specs.List.Sorted.{IsNonDecreasingBy}
use Rattle.std.proofs.lemmas.Option.{get_or_from_slice_get, slice_get_within}
use Rattle.irig_codes.specs.Format.{FormatView}
use Rattle.irig_recording.specs.declared.pulse.Pulse.{Pulse}
use Rattle.irig_safety.specs.{Bearing.apart, Original.IsAlike, Original.IsNear, Original.reach_of}

-- a pulse is alike to another, and near it
pub record IsLike (f : FormatView) (any : Bool) (other p : Pulse) : Type 0 where
  pub near : apart other.rise p.rise ≤ reach_of f any
  pub alike : IsAlike f any other p

-- none of the pulses before a place is
abbrev pub NoneBefore : FormatView → Bool → List Pulse → Pulse → ℕ → Type 0
NoneBefore f any xs p place = (j : ℕ) (x : Pulse) → j < place → slice_get xs j ≡ Some x → IsLike f any x p → ⊥

-- a place before another, or after it
apart_at : (j k : ℕ) → (j < k) ⊎ (k ≤ j)
apart_at zero zero = inr (omega arith)
apart_at zero (suc k) = inl (omega arith)
apart_at (suc j) zero = inr (omega arith)
apart_at (suc j) (suc k) = elim (apart_at j k) [
  | inl less ↦ inl (omega (arith, less))
  | inr most ↦ inr (omega (arith, most))
]

split : (j k : ℕ) → j < k + 1 → (j < k) ⊎ (j ≡ k)
split j k less = elim (apart_at j k) [
  | inl before ↦ inl before
  | inr from ↦ inr (omega (arith, less, from))
]

pub none_early : (f : FormatView) (any : Bool) (xs : List Pulse) (p : Pulse) (first tenth low : ℕ) → tenth ≡ reach_of f any → low ≡ p.rise - tenth
    → ((j : ℕ) (d : Pulse) → j < first → (get_or xs j d).rise < low) → NoneBefore f any xs p first
none_early f any xs p first tenth low is e early j x less there like =
    let before = early j x less in
    let one : (get_or xs j x).rise ≡ x.rise = ap (λ (q : Pulse). q.rise) (get_or_from_slice_get xs j x x there) in
    let near = like.near in
    omega (arith, is, e, before, one, near)

pub none_more : (f : FormatView) (any : Bool) (xs : List Pulse) (p : Pulse) (place : ℕ) (x : Pulse) → slice_get xs place ≡ Some x
    → (IsAlike f any x p → ⊥) → NoneBefore f any xs p place → NoneBefore f any xs p (place + 1)
none_more f any xs p place x here other none j y less there like = elim (split j place less) [
  | inl before ↦ none j y before there like
  | inr same ↦
      let both : Some y ≡ Some x = sym there ∙ (ap (slice_get xs) same ∙ here) in
      let one : y ≡ x = cc in
      other (subst (λ (q : Pulse). IsAlike f any q p) one like.alike)
]

pub found_here : (f : FormatView) (any : Bool) (xs : List Pulse) (p : Pulse) (place tenth low high : ℕ) (x : Pulse) → slice_get xs place ≡ Some x
    → tenth ≡ reach_of f any → low ≡ p.rise - tenth → ((d : Pulse) → low ≤ (get_or xs place d).rise) → high ≡ x.rise - tenth → high ≤ p.rise
    → IsAlike f any x p → IsNear f any xs p
found_here f any xs p place tenth low high x here is e above h under same =
    let up = above x in
    let one : (get_or xs place x).rise ≡ x.rise = ap (λ (q : Pulse). q.rise) (get_or_from_slice_get xs place x x here) in
    record { place = place; other = x; there = here; near = omega (arith, is, e, up, one, h, under); alike = same }

pub none_later : (f : FormatView) (any : Bool) (xs : List Pulse) (p : Pulse) (place tenth high : ℕ) (x : Pulse) → IsNonDecreasingBy (λ (q : Pulse). q.rise) xs
    → slice_get xs place ≡ Some x → tenth ≡ reach_of f any → high ≡ x.rise - tenth → p.rise < high → NoneBefore f any xs p place
    → IsNear f any xs p → ⊥
none_later f any xs p place tenth high x rising here is h over none found = elim (apart_at found.place place) [
  | inl before ↦ none found.place found.other before found.there (record { near = found.near; alike = found.alike })
  | inr from ↦
      let within = slice_get_within xs found.place found.other found.there in
      let up = rising place found.place x from within in
      let one : (get_or xs place x).rise ≡ x.rise = ap (λ (q : Pulse). q.rise) (get_or_from_slice_get xs place x x here) in
      let two : (get_or xs found.place x).rise ≡ found.other.rise =
      ap (λ (q : Pulse). q.rise) (get_or_from_slice_get xs found.place found.other x found.there) in
      let near = found.near in
      omega (arith, up, one, two, is, h, over, near)
]

pub none_at_all : (f : FormatView) (any : Bool) (xs : List Pulse) (p : Pulse) (place : ℕ) → length xs ≤ place → NoneBefore f any xs p place → IsNear f any xs p
    → ⊥
none_at_all f any xs p place past none found =
    let within = slice_get_within xs found.place found.other found.there in
    none found.place found.other (omega (arith, within, past)) found.there (record { near = found.near; alike = found.alike })
