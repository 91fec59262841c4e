-- Frames of a recording where they are now.
use Rattle.std.proofs.Common.{◌≡◌, ◌==◌, ◌∙◌, ◌+◌, ◌<◌, ◌≤◌, ◌++◌, ℕ, zero, suc, Bool, true, false, List, [], ◌∷◌, Option, Some, None, length, drop, map, slice_get}
use Rattle.std.proofs.Common.{refl, ap, sym, arith, append_assoc}
use Rattle.std.specs.Prelude.{if◌then◌else◌}
use Rattle.std.proofs.lemmas.Bool.Decides.{nat_tests}
use Rattle.std.proofs.lemmas.List.{append-nil, drop_all}
use Rattle.irig_safety.specs.Moved.{from_time, located, moved_in, moved_to, rest_of}
use Rattle.irig_safety.specs.{Calendar.clock_of, declared.shown.Shown.Shown}
use Rattle.irig_safety.proofs.SafetyLemmas.{drop-item, first_from}

-- a place that is looked at
from_here : (x n : Shown) (new : List Shown) (b : Bool) → b ≡ (clock_of x.fields == clock_of n.fields)
    → from_time x (n ∷ new) ≡ (if b then n ∷ new else from_time x new)
from_here x n new b e = ap (λ (c : Bool). if c then n ∷ new else from_time x new) (sym e)

pub from_found : (x n : Shown) (new : List Shown) (k : ℕ) (b : Bool) → slice_get new k ≡ Some n → b ≡ (clock_of x.fields == clock_of n.fields) → b ≡ true
    → from_time x (drop k new) ≡ drop k new
from_found x n new k b here e t =
    ap (from_time x) (drop-item new k n here) ∙ (from_here x n (drop (k + 1) new) b e
    ∙ (ap (λ (c : Bool). if c then n ∷ drop (k + 1) new else from_time x (drop (k + 1) new)) t ∙ sym (drop-item new k n here)))

pub from_other : (x n : Shown) (new : List Shown) (k : ℕ) (b : Bool) → slice_get new k ≡ Some n → b ≡ (clock_of x.fields == clock_of n.fields) → b ≡ false
    → from_time x (drop k new) ≡ from_time x (drop (k + 1) new)
from_other x n new k b here e f =
    ap (from_time x) (drop-item new k n here) ∙ (from_here x n (drop (k + 1) new) b e
    ∙ ap (λ (c : Bool). if c then n ∷ drop (k + 1) new else from_time x (drop (k + 1) new)) f)

pub from_none : (x : Shown) (new : List Shown) (k : ℕ) → length new ≤ k → drop (length new) new ≡ from_time x (drop k new)
from_none x new k past =
    let all : length new ≤ length new = omega arith in
    drop_all (length new) new all ∙ sym (ap (from_time x) (drop_all k new past))

-- what is after a place that was found
pub rest_found : (new more : List Shown) (k : ℕ) → k < length new → drop (k + 1) new ≡ rest_of (drop k new) more
rest_found [] more k less = absurd (omega (arith, less))
rest_found (x ∷ new) more zero less = refl
rest_found (x ∷ new) more (suc k) less =
    let e : suc k + 1 ≡ suc (k + 1) = omega arith in
    ap (λ m. drop m (x ∷ new)) e ∙ rest_found new more k (omega (arith, less))

pub rest_none : (new more : List Shown) (k : ℕ) → length new ≤ k → more ≡ rest_of (drop k new) more
rest_none new more k past = sym (ap (λ l. rest_of l more) (drop_all k new past))

-- the frames so far, and those that are left
abbrev pub Moves : List Shown → List Shown → List Shown → ℕ → ℕ → Type 0
Moves old new moved k i = (k ≤ length new) × (moved ++ moved_in (drop i old) (drop k new) ≡ moved_in old new)

pub moves_on : (old new moved more : List Shown) (k i place next : ℕ) (x y : Shown) (at : Option Shown) → slice_get old i ≡ Some x
    → drop place new ≡ from_time x (drop k new)
    → next ≤ length new → drop next new ≡ rest_of (drop place new) (drop k new) → more ≡ moved ++ y ∷ []
    → y ≡ moved_to x at → at ≡ slice_get new place → Moves old new moved k i → Moves old new more next (i + 1)
moves_on old new moved more k i place next x y at here first most rest e made there h =
    let added : more ≡ moved ++ moved_to x (slice_get new place) ∷ [] =
    e ∙ ap (λ (z : Shown). moved ++ z ∷ []) (made ∙ ap (λ (a : Option Shown). moved_to x a) there) in
    let one : moved_in (drop i old) (drop k new) ≡ moved_to x (slice_get new place) ∷ moved_in (drop (i + 1) old) (drop next new) =
    ap (λ l. moved_in l (drop k new)) (drop-item old i x here)
    ∙ (ap (λ l. moved_to x (slice_get l 0) ∷ moved_in (drop (i + 1) old) (rest_of l (drop k new))) (sym first)
    ∙ (λ j. moved_to x (first_from place new j) ∷ moved_in (drop (i + 1) old) (sym rest j))) in (
      most,
      ap (λ l. l ++ moved_in (drop (i + 1) old) (drop next new)) added
          ∙ (append_assoc moved (moved_to x (slice_get new place) ∷ []) (moved_in (drop (i + 1) old) (drop next new)) ∙ (ap (λ l. moved ++ l) (sym one) ∙ h.1)),
    )

pub moves_all : (old new moved : List Shown) (k i : ℕ) → length old ≤ i → Moves old new moved k i → moved ≡ moved_in old new
moves_all old new moved k i past h =
    sym (append-nil moved) ∙ (ap (λ l. moved ++ moved_in l (drop k new)) (sym (drop_all i old past)) ∙ h.1)

-- frames are where they are
same_time : (x : Shown) → (clock_of x.fields == clock_of x.fields) ≡ true
same_time x = let n = clock_of x.fields in let r : (n == n) ≡ true = grind (arith, nat_tests) in r

found_itself : (x : Shown) (xs : List Shown) → from_time x (x ∷ xs) ≡ x ∷ xs
found_itself x xs = ap (λ (c : Bool). if c then x ∷ xs else from_time x xs) (same_time x)

pub moved_self : (xs : List Shown) → moved_in xs xs ≡ xs
moved_self [] = refl
moved_self (x ∷ xs) =
    ap (λ l. moved_to x (slice_get l 0) ∷ moved_in xs (rest_of l (x ∷ xs))) (found_itself x xs) ∙ ap (λ l. x ∷ l) (moved_self xs)

pub located_self : (moved : Bool) (xs : List Shown) → located moved xs xs ≡ xs
located_self true xs = moved_self xs
located_self false xs = refl

-- and have the same fields as before
same_fields : (x : Shown) (n : Option Shown) → (moved_to x n).fields ≡ x.fields
same_fields x None = refl
same_fields x (Some n) = refl

moved_fields : (old new : List Shown) → map (λ (x : Shown). x.fields) (moved_in old new) ≡ map (λ (x : Shown). x.fields) old
moved_fields [] new = refl
moved_fields (x ∷ old) new = λ i. same_fields x (slice_get (from_time x new) 0) i ∷ moved_fields old (rest_of (from_time x new) new) i

pub located_fields : (moved : Bool) (old new : List Shown) → map (λ (x : Shown). x.fields) (located moved old new) ≡ map (λ (x : Shown). x.fields) old
located_fields true old new = moved_fields old new
located_fields false old new = refl

pub located_some : (moved : Bool) (old new : List Shown) → located moved old new ≡ [] → old ≡ []
located_some moved [] new e = refl
located_some true (x ∷ old) new e = absurd (cc)
located_some false (x ∷ old) new e = e
