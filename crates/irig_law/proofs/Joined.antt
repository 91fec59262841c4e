-- Points of a stretch that are joined with those before it.
use Rattle.std.proofs.Common.{◌≡◌, ◌<◌, ◌+◌, inl, inr, ℕ, suc, zero, List, [], ◌∷◌, length, slice_get, slice_set, Option, Some, arith, refl, sym, ap, ◌∙◌, subst}
use Rattle.std.specs.Prelude.{◌↔◌}
use Rattle.std.proofs.lemmas.Bool.{cases_eq}
use Rattle.std.proofs.lemmas.List.{length-set}
use Rattle.std.proofs.lemmas.Option.{same_Some}
use Rattle.irig_law.specs.Points.{AreJoined, Knows}
use Rattle.irig_law.specs.declared.{point.Point.Point, points.Points.Points}

pub set-here : (A : Type 0) (xs : List A) (k : ℕ) (v : A) → k < length xs → slice_get (slice_set xs k v) k ≡ Some v
set-here A [] k v less = absurd (omega (arith, less))
set-here A (x ∷ xs) zero v less = refl
set-here A (x ∷ xs) (suc k) v less = set-here A xs k v (omega (arith, less))

pub set-other : (A : Type 0) (xs : List A) (k j : ℕ) (v : A) → (j ≡ k → ⊥) → slice_get (slice_set xs k v) j ≡ slice_get xs j
set-other A [] k j v ne = refl
set-other A (x ∷ xs) zero zero v ne = absurd (ne refl)
set-other A (x ∷ xs) zero (suc j) v ne = refl
set-other A (x ∷ xs) (suc k) zero v ne = refl
set-other A (x ∷ xs) (suc k) (suc j) v ne = set-other A xs k j v (λ e. ne (ap suc e))

module _ (before : Points) (from : ℕ) (old list : List (Option Point)) where
  pub joined-none : AreJoined before from old old 0
  joined-none = record {
    long = refl;
    joined = λ i x. (λ at. (at, λ less. absurd (omega (arith, less))), λ h. h.0);
  }

  -- one place more
  module _ (n : ℕ) (known said v : Option Point) (less : n < length list) (are : AreJoined before from old list n)
      (there : slice_get list n ≡ Some known) (says : (x : Point) → (said ≡ Some x) ↔ Knows before (from + n) x)
      (both : (x : Point) → (v ≡ Some x) ↔ ((known ≡ Some x) × (said ≡ Some x))) where
    abbrev new : List (Option Point)
    new = slice_set list n v

    abbrev Joined : ℕ → Point → Type 0
    Joined i x = (slice_get new i ≡ Some (Some x)) ↔ ((slice_get old i ≡ Some (Some x)) × (i < n + 1 → Knows before (from + i) x))

    here : (x : Point) → Joined n x
    here x =
        let set = set-here (Option Point) list n v less in
        let was = are.joined n x in (
          λ at. (let h = (both x).0 (same_Some v (Some x) (sym set ∙ at)) in ((was.0 (there ∙ ap Some h.0)).0, λ _. (says x).0 h.1)),
          λ h. (let known-too = same_Some known (Some x) (sym there ∙ was.1 (h.0, λ early. absurd (omega (arith, early)))) in
              set ∙ ap Some ((both x).1 (known-too, (says x).1 (h.1 (omega arith))))),
        )

    other : (i : ℕ) (x : Point) → (i ≡ n → ⊥) → Joined i x
    other i x ne =
        let same = set-other (Option Point) list n i v ne in
        let was = are.joined i x in (
          λ at. (let h = was.0 (sym same ∙ at) in (h.0, λ low. h.1 (not-here low))),
          λ h. same ∙ was.1 (h.0, λ low. h.1 (omega (arith, low))),
        )
      where
        not-here : i < n + 1 → i < n
        not-here low = elim (cases_eq i n) [ inl e ↦ absurd (ne e) | inr differ ↦ omega (arith, low, differ) ]

    pub joined-more : AreJoined before from old new (n + 1)
    joined-more =
        let many = length-set list n v in
        record {
          long = (let l = are.long in omega (arith, many, l));
          joined = λ i x. elim (cases_eq i n) [
            | inl same ↦ subst (λ (j : ℕ). Joined j x) (sym same) (here x)
            | inr differ ↦ other i x differ
          ];
        }
