-- How much the changes of steps hold.
use Rattle.std.proofs.Common.{◌≡◌, ◌∷◌, ◌+◌, ◌-◌, ◌^◌, ◌≤◌, [], ℕ, Bool, true, false, List, length, map, min, take, drop, reverse, refl, ap, sym, ◌∙◌, arith}
use Rattle.std.specs.List.{sum_by}
use Rattle.std.proofs.lemmas.List.Sorted.{IsPermutation-reverse, sum_by-IsPermutation}
use Rattle.std.proofs.lemmas.{List.length-reverse, List.Sums.sum_by-cons, List.Sums.sum_by-take-drop}
use Rattle.std.proofs.Math.ListN.{drop_of_length-le}
use Rattle.irig_journal.specs.{Held.Group, Held.Held, Held.Parts, Held.parts_of, Journal.one_of, Journal.told, Journal.weight_of}
use Rattle.irig_journal.proofs.MoveLemmas.{Gathers, gathers_alone}

module _ {X : Type 0} where
  -- a sum does not rest on the order
  pub sum_by-reverse : (f : X → ℕ) (xs : List X) → sum_by f (reverse xs) ≡ sum_by f xs
  sum_by-reverse f xs = sum_by-IsPermutation f xs (reverse xs) (IsPermutation-reverse xs)

  -- a sum over what a list is taken to is one over the list
  pub sum_by-of_map : {Y : Type 0} (g : X → Y) (f : Y → ℕ) (xs : List X) → sum_by f (map g xs) ≡ sum_by (λ x. f (g x)) xs
  sum_by-of_map g f [] = refl
  sum_by-of_map g f (x ∷ xs) =
      sum_by-cons f (g x) (map g xs)
      ∙ (ap (λ n. f (g x) + n) (sum_by-of_map g f xs) ∙ sym (sum_by-cons (λ (y : X). f (g y)) x xs))

-- a list of no more items is taken whole
take_whole : {X : Type 0} (f : X → ℕ) (xs : List X) (i : ℕ) → length xs ≤ i → sum_by f (take i xs) ≡ sum_by f xs
take_whole f xs i long =
    let parts = sum_by-take-drop f xs i in
    let none : sum_by f (drop i xs) ≡ 0 = ap (sum_by f) (drop_of_length-le xs long) in
    omega (arith, parts, none)

module _ {C : Type 0} where
  -- what is a group, or is not one change, is taken as a group
  parts_many : (b : Bool) (cs : List C) → (b ≡ false → length cs ≡ 1 → ⊥) → parts_of b cs ≡ Group cs
  parts_many true cs many = refl
  parts_many false [] many = refl
  parts_many false (c ∷ []) many = absurd (many refl refl)
  parts_many false (c ∷ (d ∷ cs)) many = refl

module _ {C D : Type 0} where
  -- a group holds what its changes hold
  pub weight_many : (delta : Parts C → D) (gathered : List D → D) (weighs : D → ℕ) → Gathers delta gathered
      → ((ds : List D) → weighs (gathered ds) ≡ min (sum_by weighs ds) (2 ^ 64 - 1))
      → (b : Bool) (cs : List C) (n i : ℕ) → (b ≡ false → length cs ≡ 1 → ⊥)
      → length cs ≤ i → n ≡ min (sum_by (λ c. weighs (one_of delta c)) (take i cs)) (2 ^ 64 - 1)
      → n ≡ weighs (delta (parts_of b (reverse cs)))
  weight_many delta gathered weighs gathers holds b cs n i many long sum =
      let back : b ≡ false → length (reverse cs) ≡ 1 → ⊥ = λ no one. many no (sym (length-reverse cs) ∙ one) in
      sum ∙ (ap (λ k. min k (2 ^ 64 - 1))
      (take_whole (λ c. weighs (one_of delta c)) cs i long
      ∙ sym (sum_by-of_map (one_of delta) weighs (reverse cs) ∙ sum_by-reverse (λ c. weighs (one_of delta c)) cs))
      ∙ (sym (holds (map (one_of delta) (reverse cs)))
      ∙ ap weighs (sym (ap delta (parts_many b (reverse cs) back) ∙ gathers_alone delta gathered gathers (reverse cs)))))

  -- how much steps hold, by what their changes are
  pub weight_told : (delta : Parts C → D) (weighs : D → ℕ) (hs : List (Held C))
      → sum_by (λ h. weighs (delta h.parts)) hs ≡ weight_of weighs (map (told delta) hs)
  weight_told delta weighs hs = sym (sum_by-of_map (told delta) (λ d. weighs d.change) hs)
