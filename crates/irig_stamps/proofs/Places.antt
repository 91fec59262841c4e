-- Which of the first columns has a name, and newlines.
use Rattle.std.proofs.Common.{◌≡◌, ◌==◌, ◌<◌, ◌≤◌, ◌+◌, ◌++◌, ℕ, suc, Bool, true, false, List, [], ◌∷◌, Option, Some, None, length, take, get_or}
use Rattle.std.proofs.Common.{refl, sym, ap, ◌∙◌, arith}
use Rattle.std.specs.Prelude.{if◌then◌else◌}
use Rattle.irig_stamps.specs.Columns.{column_of, passed}
use Rattle.irig_stamps.specs.Named.{AreTwo, has_name, is_named, newlines}
use Rattle.irig_stamps.proofs.TakenBytes.{take-more}

-- two of fewer are two of more
pub two-of-more : (has : ℕ → Bool) (n m : ℕ) → n ≤ m → AreTwo has n → AreTwo has m
two-of-more has n m less two = record {
  one = two.one;
  other = two.other;
  order = two.order;
  within = omega (arith, two.within, less);
  named = two.named;
  again = two.again;
}

-- whether the first column of what is left has the name
pub named-at : (comma : Option ℕ) (n : ℕ) (name line left text : List ℕ) (b : Bool) → b ≡ is_named name text → text ≡ column_of comma 0 left
    → ((j : ℕ) → column_of comma (n + j) line ≡ column_of comma j left) → b ≡ has_name comma name line n
named-at comma n name line left text b e t h =
    let same : n + 0 ≡ n = omega arith in
    e ∙ ap (is_named name) (t ∙ (sym (h 0) ∙ ap (λ k. column_of comma k line) same))

-- a column after the first is one of what is after the first
pub passed-column : (comma : Option ℕ) (j : ℕ) (text : List ℕ) → column_of comma (suc j) text ≡ column_of comma j (passed comma text)
passed-column None j text = refl
passed-column (Some c) j text = refl

pub later-column : (comma : Option ℕ) (n : ℕ) (line left rest : List ℕ) → rest ≡ passed comma left
    → ((j : ℕ) → column_of comma (n + j) line ≡ column_of comma j left)
    → (j : ℕ) → column_of comma (n + 1 + j) line ≡ column_of comma j rest
later-column comma n line left rest e h j =
    let next : n + 1 + j ≡ n + suc j = omega arith in
    ap (λ k. column_of comma k line) next ∙ (h (suc j) ∙ (passed-column comma j left ∙ ap (column_of comma j) (sym e)))

counted-one : (b : Bool) (n m k : ℕ) → n ≡ m + k → (if b then suc n else n) ≡ (if b then suc m else m) + k
counted-one true n m k e = omega (arith, e)
counted-one false n m k e = e

pub newlines-append : (xs ys : List ℕ) → newlines (xs ++ ys) ≡ newlines xs + newlines ys
newlines-append [] ys = omega arith
newlines-append (x ∷ xs) ys = counted-one (x == 10) (newlines (xs ++ ys)) (newlines xs) (newlines ys) (newlines-append xs ys)

bound-one : (b : Bool) (n m : ℕ) → n ≤ m → (if b then suc n else n) ≤ suc m
bound-one true n m h = omega (arith, h)
bound-one false n m h = omega (arith, h)

pub newlines-bound : (xs : List ℕ) → newlines xs ≤ length xs
newlines-bound [] = omega arith
newlines-bound (x ∷ xs) = bound-one (x == 10) (newlines xs) (length xs) (newlines-bound xs)

-- after one more byte
pub newlines-next : (xs : List ℕ) (i : ℕ) → i < length xs
    → newlines (take (i + 1) xs) ≡ newlines (take i xs) + (if get_or xs i 0 == 10 then 1 else 0)
newlines-next xs i less = sym (ap newlines (take-more xs i less)) ∙ newlines-append (take i xs) (get_or xs i 0 ∷ [])
