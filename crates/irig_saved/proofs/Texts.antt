-- Texts of lines.
use Rattle.std.proofs.Common.{◌≡◌, ◌++◌, ◌∷◌, [], ℕ, suc, List, length, refl, sym, ap, ◌∙◌, append_assoc}
use Rattle.irig_saved.specs.{Lines.text_of, SavedText.pulse_lines}
use Rattle.irig_recording.specs.declared.pulse.Pulse.{Pulse}

pub text_of_append : (ls ms : List (List ℕ)) → text_of (ls ++ ms) ≡ text_of ls ++ text_of ms
text_of_append [] ms = refl
text_of_append (l ∷ ls) ms =
    ap (λ t. l ++ 10 ∷ t) (text_of_append ls ms) ∙ sym (append_assoc l (10 ∷ text_of ls) (text_of ms))

-- pulses have a line each
pub length-pulse_lines : (ps : List Pulse) → length (pulse_lines ps) ≡ length ps
length-pulse_lines [] = refl
length-pulse_lines (p ∷ ps) = ap suc (length-pulse_lines ps)
