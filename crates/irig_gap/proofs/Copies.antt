-- Places copied one after the other, and both sides of a gap copied into a longer row.
use Rattle.std.proofs.Common.{◌≡◌, ℕ, suc, zero, ◌+◌, ◌-◌, ◌<◌, ◌≤◌, List, [], ◌∷◌, ◌++◌, length, take, drop, set, get_or, Option, Some, None, sym, ap, ◌∙◌}
use Rattle.std.proofs.Common.{arith, append_assoc, length-append, length-drop}
use Rattle.std.proofs.Math.Seq.{drop-append_seam}
use Rattle.std.proofs.lemmas.List.{get_or-drop, drop_more, take_more, set-append_right, length-take, append-nil, take-append-le, take-take, take_all, drop_all}

module _ {X : Type 0} where
  pub full_within : (cs : List (Option X)) (i : ℕ) (x : X) → get_or cs i None ≡ Some x → i < length cs
  full_within [] i x e = cc
  full_within (c ∷ cs) zero x e = omega arith
  full_within (c ∷ cs) (suc i) x e = omega (arith, full_within cs i x e)

  -- i places are copied, and one more
  pub copied_more : (fs cs ds : List (Option X)) (at to i : ℕ) (x : X) → get_or fs (at + i) None ≡ Some x → to + i < length cs
      → ds ≡ take to cs ++ (take i (drop at fs) ++ drop (to + i) cs)
      → set ds (to + i) (Some x) ≡ take to cs ++ (take (i + 1) (drop at fs) ++ drop (to + (i + 1)) cs)
  copied_more fs cs ds at to i x is lt e =
      let y = Some x in let run = drop at fs in let in_fs = full_within fs (at + i) x is in let lr : i < length run = omega (arith, length-drop at fs) in
      let lt1 : length (take to cs) ≡ to = omega (arith, length-take to cs) in let li : length (take i run) ≡ i = omega (arith, length-take i run) in
      let off : to + i - to ≡ i = omega arith in let none : i - i ≡ 0 = omega arith in let next : to + i + 1 ≡ to + (i + 1) = omega arith in
      let end : set (drop (to + i) cs) (i - i) y ≡ y ∷ drop (to + (i + 1)) cs = (λ t. set (drop_more cs (to + i) None lt t) (none t) y)
      ∙ ap (λ k. y ∷ drop k cs) next in
      let item : get_or run i None ≡ y = get_or-drop at fs i None ∙ is in
      ap (λ l. set l (to + i) y) e ∙ set-append_right (take to cs) (take i run ++ drop (to + i) cs) to (to + i) y lt1 (omega arith)
      ∙ ap (λ k. take to cs ++ set (take i run ++ drop (to + i) cs) k y) off
      ∙ ap (λ l. take to cs ++ l) (set-append_right (take i run) (drop (to + i) cs) i i y li (omega arith) ∙ ap (λ l. take i run ++ l) end
      ∙ sym (append_assoc (take i run) (y ∷ []) (drop (to + (i + 1)) cs))
      ∙ ap (λ l. l ++ drop (to + (i + 1)) cs) (sym (take_more run i None lr ∙ ap (λ z. take i run ++ z ∷ []) item)))

  -- k places are copied, and the row is as long as before
  pub length-copied : (cs r ds : List (Option X)) (at to k : ℕ) → at + k ≤ length cs → to + k ≤ length r
      → ds ≡ take to r ++ (take k (drop at cs) ++ drop (to + k) r) → length ds ≡ length r
  length-copied cs r ds at to k p q e =
      let run = take k (drop at cs) in let rest = drop (to + k) r in
      ap length e ∙ omega (
        arith,
        length-append (take to r) (run ++ rest),
        length-append run rest,
        length-take to r,
        length-take k (drop at cs),
        length-drop at cs,
        length-drop (to + k) r,
      )

  -- the first g places and the last m, copied into n places
  pub copied : (cs r c1 c2 : List (Option X)) (g a b m n : ℕ) → g ≤ a → a ≤ length cs → m ≡ length cs - a → b ≡ n - m → length cs ≤ n → length r ≡ n
      → c1 ≡ take 0 r ++ (take g (drop 0 cs) ++ drop (0 + g) r) → c2 ≡ take b c1 ++ (take m (drop a cs) ++ drop (b + m) c1)
      → (take g c2 ≡ take g cs) × (drop b c2 ≡ drop a cs) × (length c2 ≡ n)
  copied cs r c1 c2 g a b m n p q is at more long e1 e2 =
      let rest = drop (0 + g) r in
      let f : c1 ≡ take g cs ++ rest = e1 in
      let fl : length (take g cs) ≡ g = omega (arith, length-take g cs) in
      let l1 : length c1 ≡ n = ap length f ∙ omega (arith, length-append (take g cs) rest, length-drop (0 + g) r) in
      let lb : length (take b c1) ≡ b = omega (arith, length-take b c1) in
      let lm : length (drop a cs) ≡ m = omega (arith, length-drop a cs) in
      let tail : take m (drop a cs) ++ drop (b + m) c1 ≡ drop a cs = (λ t. take_all m (drop a cs) (omega arith) t ++ drop_all (b + m) c1 (omega arith) t)
      ∙ append-nil (drop a cs) in
      let e : c2 ≡ take b c1 ++ drop a cs = e2 ∙ ap (λ l. take b c1 ++ l) tail in (
        ap (take g) e ∙ take-append-le g (take b c1) (drop a cs) (omega arith) ∙ take-take g b c1 (omega arith) ∙ ap (take g) f
            ∙ take-append-le g (take g cs) rest (omega arith) ∙ take_all g (take g cs) (omega arith),
        ap (drop b) e ∙ ap (λ k. drop k (take b c1 ++ drop a cs)) (sym lb) ∙ drop-append_seam (take b c1) (drop a cs),
        ap length e ∙ omega (arith, length-append (take b c1) (drop a cs)),
      )
