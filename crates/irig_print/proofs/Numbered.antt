-- Numbered lines, one after another, sent through a block.
use Rattle.std.proofs.Common.{◌≡◌, ◌+◌, ◌<◌, ◌++◌, ◌∷◌, [], ℕ, suc, zero, List, Option, length, take, get_or, refl, ap, sym, ◌∙◌, subst, append_assoc, arith}
use Rattle.std.proofs.lemmas.List.{append-nil}
use Rattle.irig_print.specs.{Blocks.Sends, Front.AppendsFront, Numbered.numbered}
use Rattle.irig_print.proofs.Blocks.{front_longer, sends_front, sends_more}

-- one more line
numbered_push : {T : Type 0} (line : ℕ → T → List ℕ) (n : ℕ) (xs : List T) (k : ℕ) (d : T) → k < length xs
    → numbered line n (take (suc k) xs) ≡ numbered line n (take k xs) ++ line (n + k) (get_or xs k d)
numbered_push line n [] k d h = absurd (omega (arith, h))
numbered_push line n (x ∷ xs) zero d h =
    let here : n + 0 ≡ n = omega arith in
    append-nil (line n x) ∙ ap (λ m. line m x) (sym here)
numbered_push line n (x ∷ xs) (suc k) d h =
    let place : suc n + k ≡ n + suc k = omega arith in
    let rest = numbered_push line (suc n) xs k d (omega (arith, h)) in
    ap (λ t. line n x ++ t) (rest ∙ ap (λ m. numbered line (suc n) (take k xs) ++ line m (get_or xs k d)) place)
    ∙ sym (append_assoc (line n x) (numbered line (suc n) (take k xs)) (line (n + suc k) (get_or xs k d)))

-- the lines of the first items are a front of all lines
numbered_cut : {T : Type 0} (line : ℕ → T → List ℕ) (n : ℕ) (xs : List T) (k : ℕ) → (rest : List ℕ) × (numbered line n xs ≡ numbered line n (take k xs) ++ rest)
numbered_cut line n [] zero = ([], refl)
numbered_cut line n [] (suc k) = ([], refl)
numbered_cut line n (x ∷ xs) zero = (numbered line n (x ∷ xs), refl)
numbered_cut line n (x ∷ xs) (suc k) =
    let rest = numbered_cut line (suc n) xs k in
    (rest.0, ap (λ t. line n x ++ t) rest.1 ∙ sym (append_assoc (line n x) (numbered line (suc n) (take k xs)) rest.0))

numbered_next : {T : Type 0} (line : ℕ → T → List ℕ) (n : ℕ) (xs : List T) (k : ℕ) (d : T) → k < length xs
    → numbered line n (take (k + 1) xs) ≡ numbered line n (take k xs) ++ line (n + k) (get_or xs k d)
numbered_next line n xs k d h =
    let count : k + 1 ≡ suc k = omega arith in
    ap (λ m. numbered line n (take m xs)) count ∙ numbered_push line n xs k d h

-- one more line was sent
pub listed_more : {T : Type 0} (line : ℕ → T → List ℕ) (n : ℕ) (xs : List T) (k : ℕ) (d : T) (a b c : Option (List ℕ)) (x z text : List ℕ) → k < length xs
    → text ≡ line (n + k) (get_or xs k d)
    → Sends a b [] x (numbered line n (take k xs)) → Sends b c x z text → Sends a c [] z (numbered line n (take (k + 1) xs))
listed_more line n xs k d a b c x z text h e p q =
    subst (λ (t : List ℕ). Sends a c [] z t) (ap (λ t. numbered line n (take k xs) ++ t) e ∙ sym (numbered_next line n xs k d h))
    (sends_more a b c [] x z (numbered line n (take k xs)) text p q)

-- one more line was sent in front
pub listed_front : {T : Type 0} (line : ℕ → T → List ℕ) (n : ℕ) (xs : List T) (k : ℕ) (d : T) (a b c : Option (List ℕ)) (x text : List ℕ) → k < length xs
    → text ≡ line (n + k) (get_or xs k d)
    → Sends a b [] x (numbered line n (take k xs)) → AppendsFront b c (x ++ text) → AppendsFront a c (numbered line n xs)
listed_front line n xs k d a b c x text h e p q =
    let front = sends_front a b c x (numbered line n (take k xs)) text p q in
    let upto = subst (λ (t : List ℕ). AppendsFront a c t) (ap (λ t. numbered line n (take k xs) ++ t) e ∙ sym (numbered_next line n xs k d h)) front in
    let cut = numbered_cut line n xs (k + 1) in
    subst (λ (t : List ℕ). AppendsFront a c t) (sym cut.1) (front_longer a c _ cut.0 upto)
