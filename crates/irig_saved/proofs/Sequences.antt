-- Parts in a row: what stops the first or the second stops both.
use Rattle.std.proofs.Common.{◌≡◌, ◌≤◌, ◌+◌, ◌-◌, ◌++◌, ◌∷◌, [], ℕ, zero, suc, List, length, take, drop, refl, sym, ap, ap₂, ◌∙◌, append_assoc, arith, inl, inr}
use Rattle.std.proofs.Common.{◌⊎◌, length-append, subst}
use Rattle.std.proofs.Math.Seq.{take-append-add}
use Rattle.std.proofs.lemmas.{Bool.cases_lt, List.take-append-le, List.take_all, List.take-append-drop, List.length-take-le, List.append_cancel_left}
use Rattle.irig_saved.specs.{Lines.text_of, Reading.Reads, Reading.Stops, Reading.Lacks}
use Rattle.irig_saved.proofs.{Clean.AreLines, Unique.Same, Unique.regroup, Bytes.cut_at, Bytes.not_lacking}

at_most : (m n : ℕ) → (m ≤ n) ⊎ (n + 1 ≤ m)
at_most m n = elim (cases_lt n m) as (λ _. (m ≤ n) ⊎ (n + 1 ≤ m)) [ inl h ↦ inr (omega (arith, h)) | inr h ↦ inl h ]

module _ {X Y : Type 0} (IsX : X → Type 0) (IsY : X → Y → Type 0) (xs : X → List (List ℕ)) (ys : Y → List (List ℕ)) where
  -- both parts, and their lines
  abbrev pub Both : X × Y → Type 0
  Both p = IsX p.0 × IsY p.0 p.1

  abbrev pub both : X × Y → List (List ℕ)
  both p = xs p.0 ++ ys p.1

  -- the first stops
  pub first_stops : (text rest : List ℕ) → ((x : X) → IsX x → (y : Y) × IsY x y) → Stops IsX xs text rest → Stops Both both text rest
  first_stops text rest some s =
      let y = some s.part s.lawful in
      record {
        n = s.n;
        part = (s.part, y.0);
        lawful = (s.lawful, y.1);
        there = omega (arith, s.there, length-append (xs s.part) (ys y.0));
        same = s.same ∙ ap (λ (l : List (List ℕ)). text_of l ++ rest) (sym (take-append-le s.n (xs s.part) (ys y.0) s.there));
        wrong = λ p more h few e. elim (at_most (length (xs p.0)) s.n) as (λ _. ⊥) [
          | inl shorter ↦
              let k = s.n + 1 - length (xs p.0) in
              let sum : s.n + 1 ≡ length (xs p.0) + k = omega (arith, shorter) in
              s.refused p.0 (text_of (take k (ys p.1)) ++ more) h.0
              (e ∙ ap (λ n. text_of (take n (xs p.0 ++ ys p.1)) ++ more) sum
              ∙ ap (λ (l : List (List ℕ)). text_of l ++ more) (take-append-add (xs p.0) (ys p.1) k)
              ∙ regroup (xs p.0) (take k (ys p.1)) more)
          | inr longer ↦ s.wrong p.0 more h.0 longer (e ∙ ap (λ (l : List (List ℕ)). text_of l ++ more) (take-append-le (s.n + 1) (xs p.0) (ys p.1) longer))
        ];
        refused = λ p more h e. s.refused p.0 (text_of (ys p.1) ++ more) h.0 (e ∙ regroup (xs p.0) (ys p.1) more);
      }

pub record Further (ls ms : List (List ℕ)) (r s : List ℕ) : Type 0 where
  pub more : List (List ℕ)
  pub lines : ms ≡ ls ++ more
  pub rest : r ≡ text_of more ++ s

-- of two beginnings of a text in whole lines the longer one continues the shorter
pub goes_on : (ls ms : List (List ℕ)) (r s : List ℕ) → AreLines ls → AreLines ms → length ls ≤ length ms
    → text_of ls ++ r ≡ text_of ms ++ s → Further ls ms r s
goes_on [] ms r s hl hm n e = record { more = ms; lines = refl; rest = e }
goes_on (l ∷ ls) [] r s hl hm n e = absurd (omega (arith, n))
goes_on (l ∷ ls) (m ∷ ms) r s hl hm n e =
    let t = cut_at 10 l m (text_of ls ++ r) (text_of ms ++ s) hl.0 hm.0 (sym (append_assoc l (10 ∷ text_of ls) r) ∙ e ∙ append_assoc m (10 ∷ text_of ms) s) in
    let f = goes_on ls ms r s hl.1 hm.1 (omega (arith, n)) t.1 in
    record { more = f.more; lines = ap₂ (λ (a : List ℕ) (k : List (List ℕ)). a ∷ k) (sym t.0) f.lines; rest = f.rest }

pub lines_take : (n : ℕ) (ls : List (List ℕ)) → AreLines ls → AreLines (take n ls)
lines_take zero ls h = tt
lines_take (suc n) [] h = tt
lines_take (suc n) (l ∷ ls) h = (h.0, lines_take n ls h.1)

module _ {X : Type 0} (IsX : X → Type 0) (xs : X → List (List ℕ))
    (clean : (x : X) → IsX x → AreLines (xs x))
    (law : (x y : X) (r s : List ℕ) → IsX x → IsX y → text_of (xs x) ++ r ≡ text_of (xs y) ++ s → Same x y r s) where
  -- a text that begins with all lines of one part begins with this many lines of no other
  pub determined : (x y : X) (text r s : List ℕ) (n : ℕ) → IsX x → IsX y → length (xs x) ≤ n
      → text ≡ text_of (xs x) ++ r → text ≡ text_of (take n (xs y)) ++ s → x ≡ y
  determined x y text r s n hx hy many ex ey = elim (at_most (length (xs y)) n) as (λ _. x ≡ y) [
    | inl all ↦ (law x y r s hx hy (sym ex ∙ ey ∙ ap (λ (l : List (List ℕ)). text_of l ++ s) (take_all n (xs y) all))).value
    | inr more ↦
        let size : length (take n (xs y)) ≡ n = length-take-le n (xs y) (omega (arith, more)) in
        let f = goes_on (xs x) (take n (xs y)) r s (clean x hx) (lines_take n (xs y) (clean y hy)) (omega (arith, size, many)) (sym ex ∙ ey) in
        let whole : xs y ≡ xs x ++ (f.more ++ drop n (xs y)) = sym (take-append-drop n (xs y)) ∙ ap (λ (l : List (List ℕ)). l ++ drop n (xs y)) f.lines
        ∙ append_assoc (xs x) f.more (drop n (xs y)) in
        (law x y (text_of (f.more ++ drop n (xs y)) ++ []) [] hx hy
        (sym (regroup (xs x) (f.more ++ drop n (xs y)) []) ∙ ap (λ (l : List (List ℕ)). text_of l ++ []) (sym whole))).value
  ]

module _ {X Y : Type 0} (IsX : X → Type 0) (IsY : X → Y → Type 0) (xs : X → List (List ℕ)) (ys : Y → List (List ℕ)) where
  -- the first is read, the second stops, and the lines before it and its own determine the first
  pub behind_stops : (x : X) (text mid rest : List ℕ) → IsX x → text ≡ text_of (xs x) ++ mid
      → ((p : X × Y) (n : ℕ) (more : List ℕ) → Both IsX IsY xs ys p → length (xs x) + 1 ≤ n → text ≡ text_of (take n (both IsX IsY xs ys p)) ++ more → x ≡ p.0)
      → Stops (IsY x) ys mid rest → Stops (Both IsX IsY xs ys) (both IsX IsY xs ys) text rest
  behind_stops x text mid rest hx ex tells s = record {
    n = length (xs x) + s.n;
    part = (x, s.part);
    lawful = (hx, s.lawful);
    there = omega (arith, s.there, length-append (xs x) (ys s.part));
    same = ex ∙ ap (λ (l : List ℕ). text_of (xs x) ++ l) s.same ∙ sym (regroup (xs x) (take s.n (ys s.part)) rest)
        ∙ ap (λ (l : List (List ℕ)). text_of l ++ rest) (sym (take-append-add (xs x) (ys s.part) s.n));
    wrong = λ p more h few e. wrong_of p more h few e;
    refused = λ p more h e. refused_of p more h e;
  } where
    sum : length (xs x) + s.n + 1 ≡ length (xs x) + (s.n + 1)
    sum = omega arith

    here : (y : Y) (more : List ℕ) → IsY x y → length (xs x) + s.n + 1 ≤ length (xs x ++ ys y) → text ≡ text_of (take (length (xs x) + s.n + 1) (xs x ++ ys y))
        ++ more → ⊥
    here y more hy few e =
        let k : text_of (xs x) ++ mid ≡ text_of (xs x) ++ (text_of (take (s.n + 1) (ys y)) ++ more) =
        sym ex ∙ e ∙ ap (λ n. text_of (take n (xs x ++ ys y)) ++ more) sum
        ∙ ap (λ (l : List (List ℕ)). text_of l ++ more) (take-append-add (xs x) (ys y) (s.n + 1)) ∙ regroup (xs x) (take (s.n + 1) (ys y)) more in
        s.wrong y more hy (omega (arith, few, length-append (xs x) (ys y)))
        (append_cancel_left (text_of (xs x)) mid (text_of (take (s.n + 1) (ys y)) ++ more) k)

    wrong_of : (p : X × Y) (more : List ℕ) → IsX p.0 × IsY p.0 p.1 → length (xs x) + s.n + 1 ≤ length (xs p.0 ++ ys p.1)
        → text ≡ text_of (take (length (xs x) + s.n + 1) (xs p.0 ++ ys p.1)) ++ more → ⊥
    wrong_of p more h few e =
        let P : X → Type 0 = λ x'. IsY x' p.1 → length (xs x) + s.n + 1 ≤ length (xs x' ++ ys p.1)
        → text ≡ text_of (take (length (xs x) + s.n + 1) (xs x' ++ ys p.1)) ++ more → ⊥ in
        subst P (tells p (length (xs x) + s.n + 1) more h (omega arith) e) (here p.1 more) h.1 few e

    refused_of : (p : X × Y) (more : List ℕ) → IsX p.0 × IsY p.0 p.1 → text ≡ text_of (xs p.0 ++ ys p.1) ++ more → ⊥
    refused_of p more h e =
        let n = length (xs x) + 1 + length (xs p.0 ++ ys p.1) in
        let same = tells p n more h (omega arith) (e ∙ ap (λ (l : List (List ℕ)). text_of l ++ more) (sym (take_all n (xs p.0 ++ ys p.1) (omega arith)))) in
        let P : X → Type 0 = λ x'. IsY x' p.1 → text ≡ text_of (xs x') ++ (text_of (ys p.1) ++ more) → ⊥ in
        subst P same (λ hy f. s.refused p.1 more hy (append_cancel_left (text_of (xs x)) mid (text_of (ys p.1) ++ more) (sym ex ∙ f))) h.1
        (e ∙ regroup (xs p.0) (ys p.1) more)

  -- the same if the lines of the first alone determine it
  pub second_stops : (x : X) (text mid rest : List ℕ) → IsX x → text ≡ text_of (xs x) ++ mid
      → ((x' : X) (n : ℕ) (more : List ℕ) → IsX x' → length (xs x) ≤ n → text ≡ text_of (take n (xs x')) ++ more → x ≡ x')
      → Stops (IsY x) ys mid rest → Stops (Both IsX IsY xs ys) (both IsX IsY xs ys) text rest
  second_stops x text mid rest hx ex unique s = behind_stops x text mid rest hx ex (λ p n more h many e. same_first p n more h.0 (omega (arith, many)) e) s
    where
      same_first : (p : X × Y) (n : ℕ) (more : List ℕ) → IsX p.0 → length (xs x) ≤ n → text ≡ text_of (take n (xs p.0 ++ ys p.1)) ++ more → x ≡ p.0
      same_first p n more h many e = elim (at_most (length (xs p.0)) n) as (λ _. x ≡ p.0) [
        | inl all ↦
            let k = n - length (xs p.0) in
            let split : n ≡ length (xs p.0) + k = omega (arith, all) in
            unique p.0 n (text_of (take k (ys p.1)) ++ more) h many
            (e ∙ ap (λ m. text_of (take m (xs p.0 ++ ys p.1)) ++ more) split
            ∙ ap (λ (l : List (List ℕ)). text_of l ++ more) (take-append-add (xs p.0) (ys p.1) k)
            ∙ regroup (xs p.0) (take k (ys p.1)) more ∙ ap (λ (l : List (List ℕ)). text_of l ++ (text_of (take k (ys p.1)) ++ more))
            (sym (take_all n (xs p.0) all)))
        | inr fewer ↦ unique p.0 n more h many (e ∙ ap (λ (l : List (List ℕ)). text_of l ++ more) (take-append-le n (xs p.0) (ys p.1) (omega (arith, fewer))))
      ]

-- one line

-- a part of one line is read if the line decodes
pub line_reads : {X : Type 0} (Is : X → Type 0) (write : X → List ℕ) (text l rest : List ℕ) (x : X)
    → text ≡ l ++ 10 ∷ rest → Is x → l ≡ write x → Reads Is (λ y. write y ∷ []) text x rest
line_reads Is write text l rest x cut h e = record {
  lawful = h;
  same = cut ∙ ap (λ (w : List ℕ). w ++ 10 ∷ rest) e ∙ sym (append_assoc (write x) (10 ∷ []) rest);
}

-- and stops if it does not
pub line_stops : {X : Type 0} (Is : X → Type 0) (write : X → List ℕ) (text l rest : List ℕ) (some : X)
    → text ≡ l ++ 10 ∷ rest → Lacks 10 l → Is some → ((x : X) → Is x → Lacks 10 (write x)) → ((x : X) → Is x → l ≡ write x → ⊥)
    → Stops Is (λ y. write y ∷ []) text text
line_stops Is write text l rest some cut whole h clean none = record {
  n = 0;
  part = some;
  lawful = h;
  there = omega arith;
  same = refl;
  wrong = λ x more hx few e. none x hx (cut_at 10 l (write x) rest more whole (clean x hx) (sym cut ∙ e ∙ append_assoc (write x) (10 ∷ []) more)).0;
  refused = λ x more hx e. none x hx (cut_at 10 l (write x) rest more whole (clean x hx) (sym cut ∙ e ∙ append_assoc (write x) (10 ∷ []) more)).0;
}

-- and if no line is left
pub no_line_stops : {X : Type 0} (Is : X → Type 0) (write : X → List ℕ) (text : List ℕ) (some : X)
    → Lacks 10 text → Is some → Stops Is (λ y. write y ∷ []) text text
no_line_stops Is write text some lacks h = record {
  n = 0;
  part = some;
  lawful = h;
  there = omega arith;
  same = refl;
  wrong = λ x more hx few e. lacking (write x) more (e ∙ append_assoc (write x) (10 ∷ []) more);
  refused = λ x more hx e. lacking (write x) more (e ∙ append_assoc (write x) (10 ∷ []) more);
} where
  lacking : (w more : List ℕ) → text ≡ w ++ 10 ∷ more → ⊥
  lacking w more e = let P : List ℕ → Type 0 = λ l. Lacks 10 l in not_lacking 10 w more (subst P e lacks)

-- a line is read, and what is after it stops
pub line_behind_stops : {X Y : Type 0} (IsX : X → Type 0) (IsY : X → Y → Type 0) (write : X → List ℕ) (ys : Y → List (List ℕ))
    → ((x : X) → IsX x → Lacks 10 (write x)) → ((x y : X) → IsX x → IsX y → write x ≡ write y → x ≡ y)
    → (text l mid rest : List ℕ) (x : X) → text ≡ l ++ 10 ∷ mid → IsX x → l ≡ write x → Stops (IsY x) ys mid rest
    → Stops (Both IsX IsY (λ z. write z ∷ []) ys) (both IsX IsY (λ z. write z ∷ []) ys) text rest
line_behind_stops {X} IsX IsY write ys clean tells text l mid rest x cut h e s =
    let r = line_reads IsX write text l mid x cut h e in
    second_stops IsX IsY (λ z. write z ∷ []) ys x text mid rest h r.same
    (λ y n more hy many ey. determined IsX (λ z. write z ∷ []) (λ z hz. (clean z hz, tt)) law x y text mid more n h hy many r.same ey) s where
      law : (x y : X) (r s : List ℕ) → IsX x → IsX y → text_of (write x ∷ []) ++ r ≡ text_of (write y ∷ []) ++ s → Same x y r s
      law x y r s hx hy e =
          let t = cut_at 10 (write x) (write y) r s (clean x hx) (clean y hy)
          (sym (append_assoc (write x) (10 ∷ []) r) ∙ e ∙ append_assoc (write y) (10 ∷ []) s) in
          record { value = tells x y hx hy t.0; rest = t.1 }
