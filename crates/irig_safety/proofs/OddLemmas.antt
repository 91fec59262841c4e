-- Odd pulses, one by one.
use Rattle.std.proofs.Common.{◌≡◌, ◌∙◌, ◌+◌, ◌++◌, ◌≤◌, ◌||◌, ℕ, suc, Bool, true, false, List, ◌∷◌, Some, add-one, ap, drop, drop-cons, length, slice_get, sym}
use Rattle.std.proofs.lemmas.{List.drop_all, Option.get_or_from_slice_get, Option.slice_get_within}
use Rattle.irig_codes.specs.Format.{FormatView, control_count_of}
use Rattle.irig_recording.specs.declared.pulse.Pulse.{Pulse}
use Rattle.irig_safety.specs.OddFunctions.{has_odd, is_odd_of, odd_among, odd_if, odd_of}
use Rattle.irig_safety.specs.{Functions.function_element, Widths.is_odd}
use Rattle.irig_safety.specs.declared.{odd.Odd.Odd, shown.Shown.Shown}

-- the odd functions of a frame, one by one
pub odd_more : (f : FormatView) (ps : List Pulse) (m : ℕ) (x : Shown) (k e : ℕ) (odd more : List Odd) (so : Bool) → odd ≡ odd_among f ps m x k
    → e ≡ function_element f k → so ≡ is_odd f ps m e → more ≡ odd ++ odd_if so x k → more ≡ odd_among f ps m x (k + 1)
odd_more f ps m x k e odd more so all at is put = rw add-one (put ∙ (λ i. all i ++ odd_if ((is ∙ ap (is_odd f ps m) at) i) x k))

pub odd_all : (f : FormatView) (ps : List Pulse) (m : ℕ) (x : Shown) (k : ℕ) (odd : List Odd) → odd ≡ odd_among f ps m x k → k ≡ control_count_of f
    → odd ≡ odd_of f ps m x
odd_all f ps m x k odd all end = all ∙ ap (odd_among f ps m x) end

drop_odd : (xs : List Odd) (i : ℕ) (x : Odd) → slice_get xs i ≡ Some x → drop i xs ≡ x ∷ drop (i + 1) xs
drop_odd xs i x e = rw add-one
    (drop-cons xs i x (slice_get_within xs i x e) ∙ ap (λ y. y ∷ drop (suc i) xs) (get_or_from_slice_get xs i x x e))

-- with those from a place on, whether one of all is the one that is looked for
abbrev pub HasOdd : List Odd → Shown → ℕ → ℕ → Type 0
HasOdd odd y k i = has_odd odd y k ≡ has_odd (drop i odd) y k

odd_at : (odd : List Odd) (x : Odd) (y : Shown) (k i : ℕ) (b : Bool) → slice_get odd i ≡ Some x → b ≡ is_odd_of x y k
    → has_odd (drop i odd) y k ≡ (b || has_odd (drop (i + 1) odd) y k)
odd_at odd x y k i b here is =
    ap (λ l. has_odd l y k) (drop_odd odd i x here) ∙ ap (λ (c : Bool). c || has_odd (drop (i + 1) odd) y k) (sym is)

pub odd_on : (odd : List Odd) (x : Odd) (y : Shown) (k i : ℕ) (b : Bool) → slice_get odd i ≡ Some x → b ≡ is_odd_of x y k → b ≡ false
    → HasOdd odd y k i → HasOdd odd y k (i + 1)
odd_on odd x y k i b here is not h =
    h ∙ (odd_at odd x y k i b here is ∙ ap (λ (c : Bool). c || has_odd (drop (i + 1) odd) y k) not)

pub odd_found : (odd : List Odd) (x : Odd) (y : Shown) (k i : ℕ) (b : Bool) → slice_get odd i ≡ Some x → b ≡ is_odd_of x y k → b ≡ true
    → HasOdd odd y k i → true ≡ has_odd odd y k
odd_found odd x y k i b here is so h =
    sym (h ∙ (odd_at odd x y k i b here is ∙ ap (λ (c : Bool). c || has_odd (drop (i + 1) odd) y k) so))

pub odd_none : (odd : List Odd) (y : Shown) (k i : ℕ) → length odd ≤ i → HasOdd odd y k i → false ≡ has_odd odd y k
odd_none odd y k i past h = sym (h ∙ ap (λ l. has_odd l y k) (drop_all i odd past))
