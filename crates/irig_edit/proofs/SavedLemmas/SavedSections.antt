-- The text of a saved session is made of its parts.
use Rattle.std.proofs.Common.{◌≡◌, ◌++◌, ℕ, List, [], ◌∷◌, codes, refl, append_assoc}
use Rattle.irig_saved.specs.{Lines.text_of, SavedText.journal_section, SavedText.journal_text, SavedText.saved_lines}
use Rattle.irig_saved.proofs.Texts.{text_of_append}
use Rattle.irig_recording.specs.FileText.{file_text}
use Rattle.irig_edit.specs.{Session.Work.Work, Saved.SavedSession.saved_of, Saved.SavedSession.saved_text, State.State.recording_of}

-- a section after a body: lines, of which two count those after them, between the words that open it and those that shut it
pub section : (body opens shuts p f : List ℕ) (hs ps fs : List (List ℕ))
    → ((((body ++ ((opens ++ text_of hs) ++ (p ++ 10 ∷ []))) ++ text_of ps) ++ (f ++ 10 ∷ [])) ++ text_of fs) ++ shuts
    ≡ body ++ (opens ++ (text_of (hs ++ ((p ∷ ps) ++ (f ∷ fs))) ++ shuts))
section body opens shuts p f hs ps fs = simp (append_assoc, text_of_append) refl

-- the text of a session is a body with such a section
pub saved_text-parts : (w : Work) → saved_text w ≡ file_text (recording_of w.state)
    ++ (codes "$comment\n" ++ (text_of (saved_lines (saved_of w)) ++ codes "$end\n"))
unfolding saved_text journal_section journal_text
saved_text-parts w = refl
