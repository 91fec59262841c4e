-- Texts of a form, and the numbers in them.
use Rattle.std.proofs.Common.{◌≡◌, ℕ, suc, ◌+◌, ◌-◌, ◌*◌, ◌<◌, ◌≤◌, ◌&&◌, ◌^◌, false, List, [], ◌∷◌, length, take, drop, get_or, refl, ap, ◌∙◌, arith}
use Rattle.std.proofs.{Math.Bool.and-false, Math.Nat.pow-suc}
use Rattle.std.proofs.lemmas.List.{drop_more}
use Rattle.irig_moment.specs.Written.{has_form_of, fits_form_of, digits_after}

-- a text of another length has not the form
pub other-length : (fs cs : List ℕ) → ¬ (length fs ≡ length cs) → has_form_of fs cs ≡ false
other-length [] [] h = absurd (h refl)
other-length [] (c ∷ cs) h = refl
other-length (f ∷ fs) [] h = refl
other-length (f ∷ fs) (c ∷ cs) h = ap (λ b. fits_form_of f c && b) (other-length fs cs (λ e. h (ap suc e))) ∙ and-false (fits_form_of f c)

-- one more digit
pub digit-step : (v i n m : ℕ) (cs : List ℕ) → i < length cs → n ≡ suc m →
    digits_after v (take n (drop i cs)) ≡ digits_after (10 * v + (get_or cs i 0 - 48)) (take m (drop (i + 1) cs))
digit-step v i n m cs h e = ap (λ xs. digits_after v (take n xs)) (drop_more cs i 0 h) ∙ ap (λ k. digits_after v (take k (get_or cs i 0 ∷ drop (i + 1) cs))) e

-- digits so far, whatever bytes they are
pub next-power : (d p : ℕ) → p ≤ d → 10 ^ (d + 1 - p) ≡ 10 * 10 ^ (d - p)
next-power d p h =
    let e : d + 1 - p ≡ suc (d - p) = omega arith in
    ap (λ n. 10 ^ n) e ∙ pow-suc 10 (d - p) ∙ omega arith
