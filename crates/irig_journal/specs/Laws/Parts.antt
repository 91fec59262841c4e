-- What holds of changes that are made of parts. This project's own.
use Rattle.std.proofs.Common.{◌≡◌, ◌++◌, ◌∷◌, [], List, reverse, refl, ap, ap₂, sym, subst, ◌∙◌}
use Rattle.std.specs.Prelude.{flat_map}
use Rattle.std.proofs.lemmas.{List.append-nil, List.reverse-append, List.Concat.flat_map-append}
use Rattle.irig_journal.specs.Turns.{FitAll, left_by, backs, ways_back}
use Rattle.irig_journal.specs.Laws.Turns.{FitAll-append, backs-append, left_by-append}
use Rattle.irig_journal.specs.Laws.Turns.{ways_back-cons}

module _ {S D P : Type 0} where
  -- a change is the same as its parts, turned one after another
  pub record IsOfParts (fits : S → D → Type 0) (turned : S → D → S × D) (part_fits : S → P → Type 0)
      (part_turned : S → P → S × P) (parts : D → List P) : Type 0 where
    pub fit : (s : S) (d : D) → fits s d → FitAll part_fits part_turned s (parts d)
    pub state : (s : S) (d : D) → (turned s d).0 ≡ left_by part_turned s (parts d)
    pub back : (s : S) (d : D) → parts (turned s d).1 ≡ ways_back part_turned s (parts d)

  pub fit_of_parts : (fits : S → D → Type 0) (turned : S → D → S × D) (part_fits : S → P → Type 0)
      (part_turned : S → P → S × P) (parts : D → List P)
      → IsOfParts fits turned part_fits part_turned parts → (s : S) (ds : List D)
      → FitAll fits turned s ds → FitAll part_fits part_turned s (flat_map parts ds)
  fit_of_parts fits turned part_fits part_turned parts of s [] fit = tt
  fit_of_parts fits turned part_fits part_turned parts of s (d ∷ ds) fit =
      FitAll-append part_fits part_turned s (parts d) (flat_map parts ds) (of.fit s d fit.0)
      (subst (λ (x : S). FitAll part_fits part_turned x (flat_map parts ds)) (of.state s d)
      (fit_of_parts fits turned part_fits part_turned parts of (turned s d).0 ds fit.1))

  pub state_of_parts : (fits : S → D → Type 0) (turned : S → D → S × D) (part_fits : S → P → Type 0)
      (part_turned : S → P → S × P) (parts : D → List P)
      → IsOfParts fits turned part_fits part_turned parts → (s : S) (ds : List D)
      → left_by turned s ds ≡ left_by part_turned s (flat_map parts ds)
  state_of_parts fits turned part_fits part_turned parts of s [] = refl
  state_of_parts fits turned part_fits part_turned parts of s (d ∷ ds) =
      state_of_parts fits turned part_fits part_turned parts of (turned s d).0 ds
      ∙ (ap (λ (x : S). left_by part_turned x (flat_map parts ds)) (of.state s d)
      ∙ sym (left_by-append part_turned s (parts d) (flat_map parts ds)))

  pub ways_of_parts : (fits : S → D → Type 0) (turned : S → D → S × D) (part_fits : S → P → Type 0)
      (part_turned : S → P → S × P) (parts : D → List P)
      → IsOfParts fits turned part_fits part_turned parts → (s : S) (ds : List D)
      → flat_map parts (ways_back turned s ds) ≡ ways_back part_turned s (flat_map parts ds)
  ways_of_parts fits turned part_fits part_turned parts of s [] = refl
  ways_of_parts fits turned part_fits part_turned parts of s (d ∷ ds) =
      let after = (turned s d).0 in
      let later = flat_map parts ds in
      let one = backs part_turned s (parts d) in
      let others = backs part_turned (left_by part_turned s (parts d)) later in
      let rest : flat_map parts (ways_back turned after ds) ≡ reverse others =
      ways_of_parts fits turned part_fits part_turned parts of after ds
      ∙ ap (λ (x : S). ways_back part_turned x later) (of.state s d) in
      let last : flat_map parts ((turned s d).1 ∷ []) ≡ reverse one =
      append-nil (parts (turned s d).1) ∙ of.back s d in
      ap (flat_map parts) (ways_back-cons turned s d ds)
      ∙ (flat_map-append parts (ways_back turned after ds) ((turned s d).1 ∷ [])
      ∙ (ap₂ (λ (l m : List P). l ++ m) rest last
      ∙ (sym (reverse-append one others)
      ∙ ap reverse (sym (backs-append part_turned s (parts d) later)))))
