-- The text of a saved journal is one that a dump can carry.
use Rattle.std.proofs.Common.{◌≡◌, ◌==◌, ◌++◌, ◌∷◌, [], ℕ, true, not, List, drop, codes, refl, sym, ap, ◌∙◌, append_assoc}
use Rattle.std.proofs.lemmas.Bool.{and_from}
use Rattle.irig_recording.specs.Comments.{IsJournalText, comment_text}
use Rattle.irig_saved.specs.SavedText.{saved_lines, journal_text, journal_section}
use Rattle.irig_saved.specs.{Lines.text_of, Ranges.IsSaved, Reading.Lacks, declared.saved.Saved.Saved}
use Rattle.irig_saved.proofs.Clean.{AllLack, dollar, lacks_append, saved_clean}

text_lacks : (b : ℕ) (ls : List (List ℕ)) → not (10 == b) ≡ true → AllLack b ls → Lacks b (text_of ls)
text_lacks b [] other h = refl
text_lacks b (l ∷ ls) other h = lacks_append b l (10 ∷ text_of ls) h.0 (and_from (not (10 == b)) _ other (text_lacks b ls other h.1))

last_newline : (l : List ℕ) (ls : List (List ℕ)) → (front : List ℕ) × (text_of (l ∷ ls) ≡ front ++ 10 ∷ [])
last_newline l [] = (l, refl)
last_newline l (m ∷ ls) =
    let more = last_newline m ls in
    (l ++ 10 ∷ more.0, ap (λ t. l ++ 10 ∷ t) more.1 ∙ sym (append_assoc l (10 ∷ more.0) (10 ∷ [])))

pub journal_is_text : (s : Saved) → IsSaved s → IsJournalText (journal_text s)
unfolding journal_text
journal_is_text s h =
    let last = last_newline (codes "irig-journal-1") (drop 1 (saved_lines s)) in
    record {
      rest = text_of (drop 1 (saved_lines s));
      begins = refl;
      front = last.0;
      ends = last.1;
      plain = text_lacks 36 (saved_lines s) refl (saved_clean dollar s h);
    }

-- the section of a dump that holds it is that comment
pub section_is_comment : (s : Saved) → journal_section s ≡ comment_text (journal_text s)
unfolding journal_section
section_is_comment s = refl
