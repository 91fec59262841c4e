-- Words and lines are read from a text in one way.
use Rattle.std.proofs.Common.{◌≡◌, ◌<◌, ◌≤◌, ◌++◌, ◌∷◌, [], ℕ, Bool, true, List, drop, get_or, nat_lt, refl, sym, ap, ap₂, ◌∙◌, append_assoc, arith}
use Rattle.std.specs.List.{list_all}
use Rattle.std.proofs.lemmas.Bool.{and_parts, ltb-true}
use Rattle.irig_saved.specs.Lines.{behind}

-- a byte above the space
abbrev pub is_dark : ℕ → Bool
is_dark b = nat_lt 32 b

-- no byte of the word is a space or below
abbrev pub IsWord : List ℕ → Type 0
IsWord w = list_all is_dark w ≡ true

abbrev pub AreWords : List (List ℕ) → Type 0
AreWords [] = Unit {0}
AreWords (w ∷ ws) = IsWord w × AreWords ws

pub first_eq : (x y : ℕ) (xs ys : List ℕ) → x ∷ xs ≡ y ∷ ys → x ≡ y
first_eq x y xs ys e = ap (λ l. get_or l 0 0) e

rest_eq : (x y : ℕ) (xs ys : List ℕ) → x ∷ xs ≡ y ∷ ys → xs ≡ ys
rest_eq x y xs ys e = ap (λ l. drop 1 l) e

dark_above : (b : ℕ) (bs : List ℕ) → IsWord (b ∷ bs) → 32 < b
dark_above b bs h = ltb-true 32 b (and_parts (nat_lt 32 b) (list_all is_dark bs) h).0

dark_rest : (b : ℕ) (bs : List ℕ) → IsWord (b ∷ bs) → IsWord bs
dark_rest b bs h = (and_parts (nat_lt 32 b) (list_all is_dark bs) h).1

-- words end where they end
pub cut : (u v r s : List ℕ) (c d : ℕ) → IsWord u → IsWord v → c ≤ 32 → d ≤ 32 → u ++ c ∷ r ≡ v ++ d ∷ s → (u ≡ v) × (c ≡ d) × (r ≡ s)
cut [] [] r s c d hu hv hc hd e = (refl, first_eq c d r s e, rest_eq c d r s e)
cut [] (y ∷ v) r s c d hu hv hc hd e =
    let same : c ≡ y = first_eq c y r (v ++ d ∷ s) e in
    let above : 32 < y = dark_above y v hv in
    absurd (omega (arith, same, above, hc))
cut (x ∷ u) [] r s c d hu hv hc hd e =
    let same : x ≡ d = first_eq x d (u ++ c ∷ r) s e in
    let above : 32 < x = dark_above x u hu in
    absurd (omega (arith, same, above, hd))
cut (x ∷ u) (y ∷ v) r s c d hu hv hc hd e =
    let t = cut u v r s c d (dark_rest x u hu) (dark_rest y v hv) hc hd (rest_eq x y (u ++ c ∷ r) (v ++ d ∷ s) e) in
    (ap₂ (λ a (l : List ℕ). a ∷ l) (first_eq x y (u ++ c ∷ r) (v ++ d ∷ s) e) t.0, t.1, t.2)

pub record SameLine (h g : List ℕ) (ws vs : List (List ℕ)) (r s : List ℕ) : Type 0 where
  pub head : h ≡ g
  pub words : ws ≡ vs
  pub rest : r ≡ s

-- lines of words end where they end
pub same_line : (h g : List ℕ) (ws vs : List (List ℕ)) (r s : List ℕ) → IsWord h → IsWord g → AreWords ws → AreWords vs
    → (h ++ behind ws) ++ 10 ∷ r ≡ (g ++ behind vs) ++ 10 ∷ s → SameLine h g ws vs r s
same_line h g [] [] r s hh hg hw hv e =
    let e' : h ++ 10 ∷ r ≡ g ++ 10 ∷ s = sym (append_assoc h [] (10 ∷ r)) ∙ e ∙ append_assoc g [] (10 ∷ s) in
    let t = cut h g r s 10 10 hh hg (omega arith) (omega arith) e' in
    record { head = t.0; words = refl; rest = t.2 }
same_line h g [] (v ∷ vs) r s hh hg hw hv e =
    let e' : h ++ 10 ∷ r ≡ g ++ 32 ∷ ((v ++ behind vs) ++ 10 ∷ s) = sym (append_assoc h [] (10 ∷ r)) ∙ e ∙ append_assoc g (32 ∷ v ++ behind vs) (10 ∷ s) in
    let t = cut h g r ((v ++ behind vs) ++ 10 ∷ s) 10 32 hh hg (omega arith) (omega arith) e' in
    absurd (omega (arith, t.1))
same_line h g (w ∷ ws) [] r s hh hg hw hv e =
    let e' : h ++ 32 ∷ ((w ++ behind ws) ++ 10 ∷ r) ≡ g ++ 10 ∷ s = sym (append_assoc h (32 ∷ w ++ behind ws) (10 ∷ r)) ∙ e ∙ append_assoc g [] (10 ∷ s) in
    let t = cut h g ((w ++ behind ws) ++ 10 ∷ r) s 32 10 hh hg (omega arith) (omega arith) e' in
    absurd (omega (arith, t.1))
same_line h g (w ∷ ws) (v ∷ vs) r s hh hg hw hv e =
    let e' : h ++ 32 ∷ ((w ++ behind ws) ++ 10 ∷ r) ≡ g ++ 32 ∷ ((v ++ behind vs) ++ 10 ∷ s) = sym (append_assoc h (32 ∷ w ++ behind ws) (10 ∷ r)) ∙ e
    ∙ append_assoc g (32 ∷ v ++ behind vs) (10 ∷ s) in
    let t = cut h g ((w ++ behind ws) ++ 10 ∷ r) ((v ++ behind vs) ++ 10 ∷ s) 32 32 hh hg (omega arith) (omega arith) e' in
    let more = same_line w v ws vs r s hw.0 hv.0 hw.1 hv.1 t.2 in
    record { head = t.0; words = ap₂ (λ a (l : List (List ℕ)). a ∷ l) more.head more.words; rest = more.rest }
