-- The comment of a dump that carries a journal. This project's own.
use Rattle.std.specs.Prelude.{◌≡◌, ◌==◌, ◌++◌, ℕ, not, true, List, [], ◌∷◌, codes}
use Rattle.std.specs.List.{list_all}

-- lines without a dollar, whose first is irig-journal-1
pub record IsJournalText (lines : List ℕ) : Type 0 where
  pub rest : List ℕ
  pub begins : lines ≡ codes "irig-journal-1\n" ++ rest
  pub front : List ℕ
  pub ends : lines ≡ front ++ 10 ∷ []
  pub plain : list_all (λ b. not (b == 36)) lines ≡ true

-- lines as a comment
abbrev pub comment_text : List ℕ → List ℕ
comment_text lines = codes "$comment\n" ++ lines ++ codes "$end\n"
