-- What several steps do in turn, and what the one step does that they are joined to.
use Rattle.std.proofs.Common.{◌≡◌, ◌∷◌, ◌-◌, ◌<◌, ◌≤◌, ◌++◌, [], ℕ, suc, Bool, true, false, List, length, take, drop, map, refl, ap, sym, subst, ◌∙◌, arith}
use Rattle.std.proofs.Common.{length-append}
use Rattle.std.specs.Prelude.{nat_le, if◌then◌else◌}
use Rattle.std.proofs.lemmas.{Bool.leb-true, Bool.leb-false, List.drop_at, List.map-append, List.take-append-drop, List.take_at}
use Rattle.irig_journal.specs.Joining.{beyond, changes_of, farthest, joined}
use Rattle.irig_journal.specs.{History.FitInTurn, History.Step, Turns.FitAll, Turns.left_by}

-- what holds of what each answer of a test of two numbers gives holds of what the test gives
given_by_test : {A : Type 0} (P : A → Type 0) (m n : ℕ) (few many : A) (b : Bool) → b ≡ nat_le m n
    → (m ≤ n → P few) → (n < m → P many) → P (if b then few else many)
given_by_test P m n few many true test low high = low (leb-true m n (sym test))
given_by_test P m n few many false test low high = high (leb-false m n (sym test))

pub at_most_cases : {A : Type 0} (P : A → Type 0) (m n : ℕ) (few many : A)
    → (m ≤ n → P few) → (n < m → P many) → P (if nat_le m n then few else many)
at_most_cases P m n few many low high = given_by_test P m n few many (nat_le m n) refl low high

sub_none : (m n : ℕ) → m ≤ n → m - n ≡ 0
sub_none m n short = omega arith

module _ {D : Type 0} where
  -- a list whose farthest steps are given
  pub beyond_at : (steps near rest : List (Step D)) (n : ℕ) → steps ≡ near ++ rest
      → length rest ≡ n → beyond n steps ≡ near
  beyond_at steps near rest n parts long =
      rw parts (take_at near rest (length (near ++ rest) - n) (omega (arith, length-append near rest)))

  pub farthest_at : (steps near rest : List (Step D)) (n : ℕ) → steps ≡ near ++ rest
      → length rest ≡ n → farthest n steps ≡ rest
  farthest_at steps near rest n parts long =
      rw parts (drop_at near rest (length (near ++ rest) - n) (omega (arith, length-append near rest)))

  pub beyond-farthest : (n : ℕ) (steps : List (Step D)) → beyond n steps ++ farthest n steps ≡ steps
  beyond-farthest n steps = take-append-drop (length steps - n) steps

  -- there are none before the farthest
  pub beyond_none : (n : ℕ) (steps : List (Step D)) → length steps ≤ n → beyond n steps ≡ []
  beyond_none n steps short = rw (sub_none (length steps) n short) refl

  pub farthest_all : (n : ℕ) (steps : List (Step D)) → length steps ≤ n → farthest n steps ≡ steps
  farthest_all n steps short = rw (sub_none (length steps) n short) refl

  -- a step more, the nearest, is none of the farthest
  pub beyond_more : (n : ℕ) (near : Step D) (steps : List (Step D)) → n ≤ length steps
      → beyond n (near ∷ steps) ≡ near ∷ beyond n steps
  beyond_more n near steps low =
      let count : length (near ∷ steps) - n ≡ suc (length steps - n) = omega arith in
      ap (λ (k : ℕ). take k (near ∷ steps)) count

  pub farthest_more : (n : ℕ) (near : Step D) (steps : List (Step D)) → n ≤ length steps
      → farthest n (near ∷ steps) ≡ farthest n steps
  farthest_more n near steps low =
      let count : length (near ∷ steps) - n ≡ suc (length steps - n) = omega arith in
      ap (λ (k : ℕ). drop k (near ∷ steps)) count

module _ {S D : Type 0} where
  -- the first changes fit in turn, and the others after them
  FitAll-parts : (fits : S → D → Type 0) (turned : S → D → S × D) (s : S) (ds es : List D) → FitAll fits turned s (ds ++ es)
      → FitAll fits turned s ds × FitAll fits turned (left_by turned s ds) es
  FitAll-parts fits turned s [] es fit = (tt, fit)
  FitAll-parts fits turned s (d ∷ ds) es fit =
      let parts = FitAll-parts fits turned (turned s d).0 ds es fit.1 in
      ((fit.0, parts.0), parts.1)

  -- the steps beyond the farthest fit one after another, and the farthest where they lead to
  pub fit_parts : (fits : S → D → Type 0) (turned : S → D → S × D) (s : S) (n : ℕ) (steps : List (Step D))
      → FitInTurn fits turned s steps
      → (FitAll fits turned s (changes_of (beyond n steps)))
      × (FitInTurn fits turned (left_by turned s (changes_of (beyond n steps))) (farthest n steps))
  fit_parts fits turned s n steps fit =
      FitAll-parts fits turned s (changes_of (beyond n steps)) (changes_of (farthest n steps))
      (subst (FitAll fits turned s)
      (ap changes_of (sym (beyond-farthest n steps)) ∙ map-append (λ (d : Step D). d.change) (beyond n steps) (farthest n steps)) fit)

  -- the joined step fits, and the farthest fit after it
  pub fit_joined : (fits : S → D → Type 0) (turned : S → D → S × D) (gathered : List D → D) (s : S) (n : ℕ)
      (steps : List (Step D)) → fits s (gathered (changes_of (beyond n steps)))
      → (turned s (gathered (changes_of (beyond n steps)))).0 ≡ left_by turned s (changes_of (beyond n steps))
      → FitInTurn fits turned s steps
      → FitInTurn fits turned s (joined gathered (beyond n steps) ∷ farthest n steps)
  fit_joined fits turned gathered s n steps one same fit = (
    one,
    subst (λ (t : S). FitInTurn fits turned t (farthest n steps)) (sym same)
        (fit_parts fits turned s n steps fit).1,
  )

module _ {S C D : Type 0} where
  -- the first of changes that fit in turn fit in turn
  pub fit_first : (fits : S → D → Type 0) (turned : S → D → S × D) (one : C → D) (s : S) (all near rest : List C)
      → all ≡ near ++ rest → FitAll fits turned s (map one all) → FitAll fits turned s (map one near)
  fit_first fits turned one s all near rest parts fit =
      (FitAll-parts fits turned s (map one near) (map one rest)
      (subst (FitAll fits turned s) (ap (map one) parts ∙ map-append one near rest) fit)).0
