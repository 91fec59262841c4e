-- A base more, in its place.
use Rattle.std.proofs.Common.{◌≡◌, ℕ, zero, suc, ◌+◌, ◌<◌, ◌≤◌, List, [], ◌∷◌, ◌++◌, get_or, map, take, drop, length, sym, ap, ◌∙◌, subst, arith}
use Rattle.std.specs.List.{range_with_len}
use Rattle.std.proofs.lemmas.{List.Edits.length-insert, List.FromFn.map-range_with_len_more}
use Rattle.irig_candidates.specs.{Bases.AreFew, Bases.AreRising}

pub rising-insert : (least most : ℕ) (xs : List ℕ) (p x : ℕ) → AreRising least most xs → least ≤ x → x < most → p ≤ length xs
    → ((i : ℕ) → i < p → get_or xs i 0 < x) → (p < length xs → x < get_or xs p 0) → AreRising least most (take p xs ++ (x ∷ drop p xs))
rising-insert least most [] zero x r low high within below above = (low, (high, tt))
rising-insert least most (y ∷ ys) zero x r low high within below above =
    let next : x < y = above (omega arith) in (low, (high, (omega arith, (r.1.0, r.1.1))))
rising-insert least most [] (suc p) x r low high within below above = absurd (omega arith)
rising-insert least most (y ∷ ys) (suc p) x r low high within below above =
    let here : y < x = below 0 (omega arith) in (
      r.0,
      (
        r.1.0,
        rising-insert (y + 1) most ys p x r.1.1 (omega arith) high (omega arith)
            (λ i h. below (suc i) (omega arith)) (λ h. above (omega arith)),
      ),
    )

inserted : (xs : List ℕ) (p x most : ℕ) → p ≤ length xs → length xs < most → length (take p xs ++ (x ∷ drop p xs)) ≤ most
inserted xs p x most h k = let long : length (take p xs ++ (x ∷ drop p xs)) ≡ length xs + 1 = length-insert xs p x h in omega (arith, long, k)

less : (a b : ℕ) → a ≤ b → (b ≡ a → ⊥) → a < b
less a b h k = grind arith

-- what is known of the place of a new base
pub put-one : (below most : ℕ) (xs ys new : List ℕ) (p x : ℕ) → AreFew below most xs → ys ≡ xs → new ≡ take p xs ++ (x ∷ drop p xs) → x < below
    → length ys < most → p ≤ length ys → ((i : ℕ) → i < p → get_or ys i 0 < x) → (p < length ys → x ≤ get_or ys p 0) → (p < length ys → get_or ys p 0 ≡ x → ⊥)
    → AreFew below most new
put-one below most xs ys new p x known same is high room within lower higher unlike =
    let long : length ys ≡ length xs = ap length same in
    record {
      rising = subst (AreRising 0 below) (sym is)
          (rising-insert 0 below xs p x known.rising (omega arith) high (omega (arith, long))
          (λ i h. subst (λ (zs : List ℕ). get_or zs i 0 < x) same (lower i h))
          (λ h. let there : p < length ys = omega (arith, long, h) in
          subst (λ (zs : List ℕ). x < get_or zs p 0) same (less x (get_or ys p 0) (higher there) (unlike there))));
      few = subst (λ (zs : List ℕ). length zs ≤ most) (sym is) (inserted xs p x most (omega (arith, long, within)) (omega (arith, long, room)));
    }

-- a table with one more value
pub table-more : (F : ℕ → ℕ) (xs ys : List ℕ) (n x : ℕ) → ys ≡ xs ++ (x ∷ []) → xs ≡ map F (range_with_len 0 n) → x ≡ F n
    → ys ≡ map F (range_with_len 0 (n + 1))
table-more F xs ys n x e h w =
    let own : 0 + n ≡ n = omega arith in
    e ∙ ap (λ (zs : List ℕ). zs ++ (x ∷ [])) h ∙ ap (λ y. map F (range_with_len 0 n) ++ (y ∷ [])) w ∙ sym (map-range_with_len_more F 0 n n own)
