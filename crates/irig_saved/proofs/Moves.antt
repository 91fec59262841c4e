-- The letters of the marks that move, read one by one.
use Rattle.std.proofs.Common.{◌≡◌, ◌<◌, ◌≤◌, ◌+◌, ◌++◌, ◌∷◌, [], ℕ, zero, suc, Bool, true, false, not, ◌&&◌, List, length, drop, set, get_or, refl, sym, ap}
use Rattle.std.proofs.Common.{◌∙◌, arith}
use Rattle.std.specs.List.{list_all}
use Rattle.std.proofs.lemmas.{Bool.and_parts, Bool.true≢false, List.drop_more}
use Rattle.irig_saved.specs.ChangeWords.{letters_from}
use Rattle.irig_saved.proofs.SameWords.{later_letters}

-- if the first letter is not the one that comes, its mark does not move
skip : (x : ℕ) (m : Bool) (ms : List Bool) (rest : List ℕ) → rest ≡ letters_from x (m ∷ ms)
    → ((ys : List ℕ) → rest ≡ x ∷ ys → ⊥) → rest ≡ letters_from (x + 1) ms
skip x true ms rest e other = absurd (other (letters_from (x + 1) ms) e)
skip x false ms rest e other = e

-- if it is, its mark moves
one : (x : ℕ) (m : Bool) (ms : List Bool) (others : List ℕ) → x ∷ others ≡ letters_from x (m ∷ ms) → others ≡ letters_from (x + 1) ms
one x true ms others e = ap (λ (l : List ℕ). drop 1 l) e
one x false ms others e = let bad : x + 1 ≤ x = later_letters (x + 1) x ms others (sym e) in absurd (omega (arith, bad))

opened : (k : ℕ) (ms : List Bool) (rest : List ℕ) → k < length ms → rest ≡ letters_from (97 + k) (drop k ms)
    → rest ≡ letters_from (97 + k) (get_or ms k false ∷ drop (k + 1) ms)
opened k ms rest within e = e ∙ ap (letters_from (97 + k)) (drop_more ms k false within)

closed : (k : ℕ) (ms : List Bool) (rest : List ℕ) → rest ≡ letters_from (97 + k + 1) (drop (k + 1) ms) → rest ≡ letters_from (97 + (k + 1)) (drop (k + 1) ms)
closed k ms rest e = e ∙ ap (λ n. letters_from n (drop (k + 1) ms)) (omega arith)

pub skipped : (k : ℕ) (ms : List Bool) (rest : List ℕ) → k < length ms → rest ≡ letters_from (97 + k) (drop k ms)
    → ((ys : List ℕ) → rest ≡ (97 + k) ∷ ys → ⊥) → rest ≡ letters_from (97 + (k + 1)) (drop (k + 1) ms)
skipped k ms rest within e other = closed k ms rest (skip (97 + k) (get_or ms k false) (drop (k + 1) ms) rest (opened k ms rest within e) other)

pub taken : (k : ℕ) (ms : List Bool) (others : List ℕ) → k < length ms → (97 + k) ∷ others ≡ letters_from (97 + k) (drop k ms)
    → others ≡ letters_from (97 + (k + 1)) (drop (k + 1) ms)
taken k ms others within e = closed k ms others (one (97 + k) (get_or ms k false) (drop (k + 1) ms) others (opened k ms ((97 + k) ∷ others) within e))

no_true : (b : Bool) → not true && b ≡ true → ⊥
no_true b h = true≢false (sym h)

-- no mark moves
none : (x : ℕ) (ms : List Bool) → list_all not ms ≡ true → letters_from x ms ≡ []
none x [] h = refl
none x (true ∷ ms) h = absurd (no_true (list_all not ms) h)
none x (false ∷ ms) h = none (x + 1) ms (and_parts (not false) (list_all not ms) h).1

-- one more mark, after the last that moves
pub one_more : (x k : ℕ) (ms : List Bool) → k < length ms → list_all not (drop k ms) ≡ true
    → letters_from x (set ms k true) ≡ letters_from x ms ++ (x + k) ∷ []
one_more x k [] within h = absurd (omega (arith, within))
one_more x zero (true ∷ ms) within h = absurd (no_true (list_all not ms) h)
one_more x zero (false ∷ ms) within h =
    let clear = none (x + 1) ms (and_parts (not false) (list_all not ms) h).1 in
    ap (λ (l : List ℕ). x ∷ l) clear ∙ sym (ap (λ (l : List ℕ). l ++ x ∷ []) clear) ∙ ap (λ n. letters_from (x + 1) ms ++ n ∷ []) (omega arith)
one_more x (suc k) (true ∷ ms) within h =
    ap (λ (l : List ℕ). x ∷ l) (one_more (x + 1) k ms (omega (arith, within)) h ∙ ap (λ n. letters_from (x + 1) ms ++ n ∷ []) (omega arith))
one_more x (suc k) (false ∷ ms) within h =
    one_more (x + 1) k ms (omega (arith, within)) h ∙ ap (λ n. letters_from (x + 1) ms ++ n ∷ []) (omega arith)

-- none moves from one place further on
pub clear_next : (k : ℕ) (ms : List Bool) → k < length ms → list_all not (drop k ms) ≡ true → list_all not (drop (k + 1) ms) ≡ true
clear_next k ms within h =
    (and_parts (not (get_or ms k false)) (list_all not (drop (k + 1) ms)) (ap (list_all not) (sym (drop_more ms k false within)) ∙ h)).1
