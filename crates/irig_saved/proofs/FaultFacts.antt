-- Texts whose first wrong line is plain, or that have none.
use Rattle.std.proofs.Common.{◌≡◌, ◌++◌, ◌∷◌, [], ℕ, List, codes, refl, subst}
use Rattle.irig_saved.specs.{Reading.Lacks, Faults.IsFault, Ranges.IsSaved, SavedText.journal_text, declared.saved.Saved.Saved}
use Rattle.irig_saved.proofs.{Bytes.not_lacking, SavedParts.name_stops, FaultLines.line_of_stop}

-- a journal's own text goes wrong nowhere
pub journal_not_at_fault : (s : Saved) → IsSaved s → (n : ℕ) → IsFault n (journal_text s) → ⊥
journal_not_at_fault s h n f = f.refused s h refl

no_line : (w more : List ℕ) → [] ≡ w ++ 10 ∷ more → ⊥
no_line w more e = let P : List ℕ → Type 0 = λ l. Lacks 10 l in not_lacking 10 w more (subst P e refl)

-- if there is nothing, line 1 is missing
pub empty_text : IsFault 1 []
empty_text = line_of_stop [] [] 1 (name_stops [] (λ more e. no_line (codes "irig-journal-1") more e)) refl
