-- What holds of changes turned one after another. This project's own.
use Rattle.std.proofs.Common.{◌≡◌, ◌++◌, ◌∷◌, [], List, refl, ap}
use Rattle.std.proofs.lemmas.List.{reverse-append}
use Rattle.irig_journal.specs.Turns.{FitAll, left_by, backs, ways_back}

module _ {S D : Type 0} where
  -- first the one changes, then the others
  pub left_by-append : (turned : S → D → S × D) (s : S) (ds es : List D)
      → left_by turned s (ds ++ es) ≡ left_by turned (left_by turned s ds) es
  left_by-append turned s [] es = refl
  left_by-append turned s (d ∷ ds) es = left_by-append turned (turned s d).0 ds es

  pub backs-append : (turned : S → D → S × D) (s : S) (ds es : List D)
      → backs turned s (ds ++ es) ≡ backs turned s ds ++ backs turned (left_by turned s ds) es
  backs-append turned s [] es = refl
  backs-append turned s (d ∷ ds) es =
      ap (λ l. (turned s d).1 ∷ l) (backs-append turned (turned s d).0 ds es)

  pub FitAll-append : (fits : S → D → Type 0) (turned : S → D → S × D) (s : S) (ds es : List D)
      → FitAll fits turned s ds → FitAll fits turned (left_by turned s ds) es
      → FitAll fits turned s (ds ++ es)
  FitAll-append fits turned s [] es one other = other
  FitAll-append fits turned s (d ∷ ds) es one other =
      (one.0, FitAll-append fits turned (turned s d).0 ds es one.1 other)

  -- changes that fit in turn leave a state
  pub keeps_all : (is_state : S → Type 0) (fits : S → D → Type 0) (turned : S → D → S × D)
      → ((s : S) (d : D) → is_state s → fits s d → is_state (turned s d).0)
      → (s : S) (ds : List D) → is_state s → FitAll fits turned s ds
      → is_state (left_by turned s ds)
  keeps_all is_state fits turned keeps s [] here fit = here
  keeps_all is_state fits turned keeps s (d ∷ ds) here fit =
      keeps_all is_state fits turned keeps (turned s d).0 ds (keeps s d here fit.0) fit.1

  -- what leads back from the first comes last
  pub ways_back-cons : (turned : S → D → S × D) (s : S) (d : D) (ds : List D)
      → ways_back turned s (d ∷ ds) ≡ ways_back turned (turned s d).0 ds ++ (turned s d).1 ∷ []
  ways_back-cons turned s d ds =
      reverse-append ((turned s d).1 ∷ []) (backs turned (turned s d).0 ds)
