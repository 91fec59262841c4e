-- A number of parts in a row.
use Rattle.std.proofs.Common.{◌≡◌, ◌<◌, ◌+◌, ◌++◌, ◌∷◌, [], ℕ, suc, zero, List, length, refl, sym, ap, ◌∙◌, append_assoc, arith, inl, subst, length-append}
use Rattle.std.specs.List.{AllByRecursion}
use Rattle.std.proofs.lemmas.List.{append-nil}
use Rattle.irig_saved.specs.{Lines.text_of, Reading.Reads, Reading.Stops}
use Rattle.irig_saved.proofs.Sequences.{Both, both, first_stops, second_stops, determined}
use Rattle.irig_saved.proofs.{Clean.AreLines, Rows.Row, Rows.all-append, Unique.Same, Unique.regroup, Carried.carried}

-- what is known of one part, and of the lines of a list of them
pub record Family {X : Type 0} (Is : X → Type 0) (lines : X → List (List ℕ)) (all : List X → List (List ℕ)) : Type 0 where
  pub row : Row lines all
  pub clean : (x : X) → Is x → AreLines (lines x)
  pub law : (x y : X) (r s : List ℕ) → Is x → Is y → text_of (lines x) ++ r ≡ text_of (lines y) ++ s → Same x y r s
  pub some : X
  pub lawful : Is some

module _ {X : Type 0} (Is : X → Type 0) (lines : X → List (List ℕ)) (all : List X → List (List ℕ)) (family : Family Is lines all) where
  -- this many of them
  abbrev pub AreSo : ℕ → List X → Type 0
  AreSo count xs = (length xs ≡ count) × AllByRecursion Is xs

  pub so_many : (count : ℕ) → (xs : List X) × AreSo count xs
  so_many zero = ([], (refl, tt))
  so_many (suc count) =
      let more = so_many count in
      (family.some ∷ more.0, (ap suc more.1.0, (family.lawful, more.1.1)))

  all_push : (done : List X) (x : X) → all (done ++ x ∷ []) ≡ all done ++ lines x
  all_push [] x = family.row.next x [] ∙ ap (λ (l : List (List ℕ)). lines x ++ l) family.row.none ∙ append-nil (lines x)
      ∙ ap (λ (l : List (List ℕ)). l ++ lines x) (sym family.row.none)
  all_push (d ∷ ds) x = family.row.next d (ds ++ x ∷ []) ∙ ap (λ (l : List (List ℕ)). lines d ++ l) (all_push ds x)
      ∙ sym (append_assoc (lines d) (all ds) (lines x)) ∙ ap (λ (l : List (List ℕ)). l ++ lines x) (sym (family.row.next d ds))

  -- before the first
  pub row_begins : (text : List ℕ) → Reads (AreSo 0) all text [] text
  row_begins text = record {
    lawful = (refl, tt);
    same = ap (λ (l : List (List ℕ)). text_of l ++ text) (sym family.row.none);
  }

  -- one more
  pub row_next : (k : ℕ) (text : List ℕ) (done : List X) (mid : List ℕ) (x : X) (rest : List ℕ) → Reads (AreSo k) all text done mid → Reads Is lines mid x rest
      → Reads (AreSo (k + 1)) all text (done ++ x ∷ []) rest
  row_next k text done mid x rest before one = record {
    lawful = (length-append done (x ∷ []) ∙ ap (λ n. n + 1) before.lawful.0, all-append Is done (x ∷ []) before.lawful.1 (one.lawful, tt));
    same = before.same ∙ ap (λ (l : List ℕ). text_of (all done) ++ l) one.same ∙ sym (regroup (all done) (lines x) rest)
        ∙ ap (λ (l : List (List ℕ)). text_of l ++ rest) (sym (all_push done x));
  }

  one_more : (count : ℕ) (text rest : List ℕ) → Stops (Both Is (λ _. AreSo count) lines all) (both Is (λ _. AreSo count) lines all) text rest
      → Stops (AreSo (suc count)) all text rest
  one_more count text rest s =
      carried (Both Is (λ _. AreSo count) lines all) (AreSo (suc count)) (both Is (λ _. AreSo count) lines all) all text rest
      (λ p h. (p.0 ∷ p.1, (ap suc h.1.0, (h.0, h.1.1)), family.row.next p.0 p.1))
      (λ xs h. inl (parted xs h))
      s where
        parted : (xs : List X) → AreSo (suc count) xs → (p : X × List X) × Both Is (λ _. AreSo count) lines all p
            × (both Is (λ _. AreSo count) lines all p ≡ all xs)
        parted [] h = absurd (omega (arith, h.0))
        parted (x ∷ xs) h = ((x, xs), (h.1.0, (omega (arith, h.0), h.1.1)), sym (family.row.next x xs))

  row_stops_at : (count : ℕ) (done : List X) (text mid rest : List ℕ) → AllByRecursion Is done → length done < count → text ≡ text_of (all done) ++ mid
      → Stops Is lines mid rest
      → Stops (AreSo count) all text rest
  row_stops_at zero done text mid rest h few e s = absurd (omega (arith, few))
  row_stops_at (suc count) [] text mid rest h few e s =
      let same : mid ≡ text = sym (e ∙ ap (λ (l : List (List ℕ)). text_of l ++ mid) family.row.none) in
      let P : List ℕ → Type 0 = λ t. Stops Is lines t rest in
      one_more count text rest (first_stops Is (λ _. AreSo count) lines all text rest (λ x hx. so_many count) (subst P same s))
  row_stops_at (suc count) (d ∷ ds) text mid rest h few e s =
      let mid' = text_of (all ds) ++ mid in
      let e' : text ≡ text_of (lines d) ++ mid' = e ∙ ap (λ (l : List (List ℕ)). text_of l ++ mid) (family.row.next d ds) ∙ regroup (lines d) (all ds) mid in
      one_more count text rest
      (second_stops Is (λ _. AreSo count) lines all d text mid' rest h.0 e'
      (λ x n more hx many ex. determined Is lines family.clean family.law d x text mid' more n h.0 hx many e' ex)
      (row_stops_at count ds mid' mid rest h.1 (omega (arith, few)) refl s))

  -- if one of them stops
  pub row_stops : (k count : ℕ) (text : List ℕ) (done : List X) (mid rest : List ℕ) → k < count → Reads (AreSo k) all text done mid → Stops Is lines mid rest
      → Stops (AreSo count) all text rest
  row_stops k count text done mid rest few before s =
      row_stops_at count done text mid rest before.lawful.1 (omega (arith, few, before.lawful.0)) before.same s
