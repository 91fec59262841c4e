-- The newline that the last line of some bytes lacks.
use Rattle.std.proofs.Common.{◌≡◌, ◌≢◌, ◌==◌, ℕ, Bool, true, false, not, ◌++◌, List, [], ◌∷◌, refl, ap, ◌∙◌}
use Rattle.std.proofs.lemmas.{Bool.and_parts, Bool.false≢true, List.append-nil}
use Rattle.std.specs.Prelude.{if◌then◌else◌}
use Rattle.irig_stamps.specs.{Runs.ending_of, Stamped.is_plain, Stamped.unlines}

-- it is that of the bytes after a front
ending-append : (xs : List ℕ) (y : ℕ) (ys : List ℕ) → ending_of (xs ++ y ∷ ys) ≡ ending_of (y ∷ ys)
ending-append [] y ys = refl
ending-append (x ∷ []) y ys = refl
ending-append (x ∷ z ∷ xs) y ys = ending-append (z ∷ xs) y ys

abbrev pub end_if : Bool → List ℕ
end_if b = if b then [] else 10 ∷ []

last : (b : Bool) → not b ≡ true → end_if b ≡ 10 ∷ []
last true p = absurd (false≢true p)
last false p = refl

plain-ending : (y : ℕ) (ys : List ℕ) → is_plain (y ∷ ys) ≡ true → ending_of (y ∷ ys) ≡ 10 ∷ []
plain-ending y [] p = last (y == 10) (and_parts (not (y == 10)) true p).0
plain-ending y (z ∷ ys) p = plain-ending z ys (and_parts (not (y == 10)) (is_plain (z ∷ ys)) p).1

-- whole lines lack none
pub ending-lines : (ls : List (List ℕ)) → ending_of (unlines ls) ≡ []
ending-lines [] = refl
ending-lines (l ∷ []) = ap ending_of (append-nil (l ++ 10 ∷ [])) ∙ ending-append l 10 []
ending-lines (l ∷ [] ∷ ls) = ending-append (l ++ 10 ∷ []) 10 (unlines ls) ∙ ending-lines ([] ∷ ls)
ending-lines (l ∷ (b ∷ m) ∷ ls) = ending-append (l ++ 10 ∷ []) b ((m ++ 10 ∷ []) ++ unlines ls) ∙ ending-lines ((b ∷ m) ∷ ls)

-- a line that was begun lacks one
pub ending-rest : (bytes rest : List ℕ) (ls : List (List ℕ)) → bytes ≡ unlines ls ++ rest → is_plain rest ≡ true → rest ≢ [] → ending_of bytes ≡ 10 ∷ []
ending-rest bytes [] ls cut p some = absurd (some refl)
ending-rest bytes (y ∷ ys) ls cut p some = ap ending_of cut ∙ (ending-append (unlines ls) y ys ∙ plain-ending y ys p)

pub ending-none : (bytes rest : List ℕ) (ls : List (List ℕ)) → bytes ≡ unlines ls ++ rest → rest ≡ [] → ending_of bytes ≡ []
ending-none bytes rest ls cut none = ap ending_of (cut ∙ (ap (λ r. unlines ls ++ r) none ∙ append-nil (unlines ls))) ∙ ending-lines ls
