-- Places of a byte.
use Rattle.std.proofs.Common.{◌≡◌, ◌==◌, ◌<◌, ◌≤◌, ◌+◌, ◌++◌, ◌∷◌, [], ℕ, zero, suc, Bool, true, false, not, List, length, take, drop, get_or, refl, sym, ap}
use Rattle.std.proofs.Common.{◌∙◌, arith, ap₂, nat_lt}
use Rattle.std.specs.List.{list_all}
use Rattle.std.proofs.lemmas.Bool.{and_from, not_from_false, ne_eqb, true≢false, eq-eqb, and_parts, ltb-true}
use Rattle.std.proofs.lemmas.List.{take-append-drop, drop_more}
use Rattle.irig_saved.specs.Reading.{Lacks, IsWordy}
use Rattle.irig_saved.proofs.Cuts.{first_eq}

pub lacks_from : (b : ℕ) (bytes : List ℕ) → ((k : ℕ) → k < length bytes → get_or bytes k 0 ≡ b → ⊥) → Lacks b bytes
lacks_from b [] h = refl
lacks_from b (x ∷ xs) h =
    and_from (not (x == b)) (list_all (λ y. not (y == b)) xs)
    (not_from_false (x == b) (ne_eqb x b (λ e. h 0 (omega arith) e)))
    (lacks_from b xs (λ k lt e. h (suc k) (omega (arith, lt)) e))

pub lacks_take : (b k : ℕ) (bytes : List ℕ) → k < length bytes → ((j : ℕ) → j < k → get_or bytes j 0 ≡ b → ⊥) → Lacks b (take k bytes)
lacks_take b zero bytes within h = refl
lacks_take b (suc k) [] within h = refl
lacks_take b (suc k) (x ∷ xs) within h =
    and_from (not (x == b)) (list_all (λ y. not (y == b)) (take k xs))
    (not_from_false (x == b) (ne_eqb x b (λ e. h 0 (omega arith) e)))
    (lacks_take b k xs (omega (arith, within)) (λ j lt e. h (suc j) (omega (arith, lt)) e))

pub parts_at : (b k : ℕ) (bytes : List ℕ) → k < length bytes → get_or bytes k 0 ≡ b → bytes ≡ take k bytes ++ b ∷ drop (k + 1) bytes
parts_at b k bytes within is =
    sym (take-append-drop k bytes) ∙ ap (λ l. take k bytes ++ l) (drop_more bytes k 0 within ∙ ap (λ x. x ∷ drop (k + 1) bytes) is)

no_true : (v : Bool) → v ≡ true → not v ≡ true → ⊥
no_true v h n = let bad : false ≡ true = sym (ap not h) ∙ n in true≢false (sym bad)

not_here : (b x : ℕ) (u : List ℕ) → Lacks b (x ∷ u) → x ≡ b → ⊥
not_here b x u h is = no_true (x == b) (eq-eqb x b is) (and_parts (not (x == b)) (list_all (λ y. not (y == b)) u) h).0

rest_lacks : (b x : ℕ) (u : List ℕ) → Lacks b (x ∷ u) → Lacks b u
rest_lacks b x u h = (and_parts (not (x == b)) (list_all (λ y. not (y == b)) u) h).1

-- a text is cut at the first place of a byte in one way
pub cut_at : (b : ℕ) (u v r s : List ℕ) → Lacks b u → Lacks b v → u ++ b ∷ r ≡ v ++ b ∷ s → (u ≡ v) × (r ≡ s)
cut_at b [] [] r s hu hv e = (refl, ap (λ (l : List ℕ). drop 1 l) e)
cut_at b [] (y ∷ v) r s hu hv e = absurd (not_here b y v hv (sym (first_eq b y r (v ++ b ∷ s) e)))
cut_at b (x ∷ u) [] r s hu hv e = absurd (not_here b x u hu (first_eq x b (u ++ b ∷ r) s e))
cut_at b (x ∷ u) (y ∷ v) r s hu hv e =
    let t = cut_at b u v r s (rest_lacks b x u hu) (rest_lacks b y v hv) (ap (λ (l : List ℕ). drop 1 l) e) in
    (ap₂ (λ (a : ℕ) (l : List ℕ). a ∷ l) (first_eq x y (u ++ b ∷ r) (v ++ b ∷ s) e) t.0, t.1)

pub not_lacking : (b : ℕ) (u r : List ℕ) → Lacks b (u ++ b ∷ r) → ⊥
not_lacking b [] r h = not_here b b r h refl
not_lacking b (x ∷ u) r h = not_lacking b u r (rest_lacks b x (u ++ b ∷ r) h)

-- a word has no byte up to the space
pub dark_lacks : (b : ℕ) (w : List ℕ) → b ≤ 32 → IsWordy w → Lacks b w
dark_lacks b [] low h = refl
dark_lacks b (x ∷ w) low h =
    let p = and_parts (nat_lt 32 x) (list_all (λ y. nat_lt 32 y) w) h in
    let above : 32 < x = ltb-true 32 x p.0 in
    and_from (not (x == b)) (list_all (λ y. not (y == b)) w) (not_from_false (x == b) (ne_eqb x b (λ e. omega (arith, above, e, low)))) (dark_lacks b w low p.1)

pub wordy_lacks : (w : List ℕ) → IsWordy w → Lacks 32 w
wordy_lacks w h = dark_lacks 32 w (omega arith) h
