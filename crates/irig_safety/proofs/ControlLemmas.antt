-- Control functions, and the frames next to a place.
use Rattle.std.proofs.Common.{◌≡◌, ◌+◌, ◌-◌, ◌≤◌, ◌<◌, ◌==◌, ℕ, Bool, true, false, List, ◌∙◌, slice_get, arith, refl, subst, sym}
use Rattle.std.proofs.lemmas.Bool.Decides.{nat_tests}
use Rattle.std.specs.Prelude.{if◌then◌else◌}
use Rattle.irig_codes.specs.Format.{FormatView, control_count_of, control_width, has_control, has_year}
use Rattle.irig_codes.specs.declared.format.Kind.{Kind}
use Rattle.irig_codes.specs.declared.format.Kind.TheVariants.{A, B, E, G}
use Rattle.irig_safety.specs.{Original.near_in, Safety.behind, declared.shown.Shown.Shown, declared.witnesses.Witnesses.Witnesses}
use Rattle.irig_safety.proofs.SafetyLemmas.{first_from, get-drop}

few_width : (k : Kind) (y : Bool) → control_width k y ≤ 45
few_width A true = omega arith
few_width A false = omega arith
few_width B true = omega arith
few_width B false = omega arith
few_width E true = omega arith
few_width E false = omega arith
few_width G true = omega arith
few_width G false = omega arith

few_if : (c : Bool) (w : ℕ) → w ≤ 45 → (if c then w else 0) ≤ 45
few_if true w h = h
few_if false w h = omega arith

pub few_functions : (f : FormatView) → control_count_of f ≤ 45
few_functions f = few_if (has_control f.expression) (control_width f.kind (has_year f.expression)) (few_width f.kind (has_year f.expression))

pub near_is : (frames : List Shown) (place next : ℕ) (w : Witnesses) → w.before2 ≡ behind (place - 1) frames → w.before ≡ behind place frames
    → w.after ≡ slice_get frames next → w.after2 ≡ slice_get frames (next + 1) → w ≡ near_in frames place next
near_is frames place next w a b c d =
    λ i. record { before2 = a i; before = b i; after = (c ∙ sym (first_from next frames)) i; after2 = (d ∙ sym (get-drop next 1 frames)) i }

-- each number below the next one is below this one, or is this one
is_it : (k n : ℕ) (b : Bool) → b ≡ (k == n) → b ≡ true → k ≡ n
is_it k n b is t = grind (arith, nat_tests)

is_below : (k n : ℕ) (b : Bool) → b ≡ (k == n) → b ≡ false → k < n + 1 → k < n
is_below k n b is t less = grind (arith, nat_tests)

by_test : (P : ℕ → Type 0) (n k : ℕ) (b : Bool) → b ≡ (k == n) → ((m : ℕ) → m < n → P m) → P n → k < n + 1 → P k
by_test P n k true is each last less = subst P (sym (is_it k n true is refl)) last
by_test P n k false is each last less = each k (is_below k n false is refl less)

pub to_next : (P : ℕ → Type 0) (n : ℕ) → ((m : ℕ) → m < n → P m) → P n → (k : ℕ) → k < n + 1 → P k
to_next P n each last k less = by_test P n k (k == n) refl each last less
