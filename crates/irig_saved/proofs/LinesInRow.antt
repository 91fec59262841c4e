-- The lines of a change, given one after another: what was given, with what is left.
use Rattle.std.proofs.Common.{◌≡◌, ◌≤◌, ◌++◌, ◌+◌, ℕ, List, [], ◌∷◌, Some, ap, drop, length, refl, slice_get, append_assoc}
use Rattle.std.proofs.lemmas.List.{at_drop_all}
use Rattle.irig_saved.specs.{Lines.text_of, SavedText.pulse_line, SavedText.pulse_lines}
use Rattle.irig_track.proofs.Items.{drop-item}
use Rattle.irig_recording.specs.declared.pulse.Pulse.{Pulse}

-- a line was written, of several
pub line_first : (old new l : List ℕ) (ls : List (List ℕ)) → new ≡ old ++ (l ++ 10 ∷ [])
    → new ++ text_of ls ≡ old ++ text_of (l ∷ ls)
line_first old new l ls put = rw put (simp append_assoc refl)

-- no lines after the last pulse
pub pulses-end : (ps : List Pulse) (n : ℕ) → length ps ≤ n → text_of (pulse_lines (drop n ps)) ≡ []
pulses-end ps n h = at_drop_all (λ xs. text_of (pulse_lines xs)) ps n h

-- the lines of a pulse, and those after it
pub pulses-next : (ps : List Pulse) (i : ℕ) (p : Pulse) → slice_get ps i ≡ Some p
    → text_of (pulse_lines (drop i ps)) ≡ text_of (pulse_line p ∷ pulse_lines (drop (i + 1) ps))
pulses-next ps i p there = ap (λ xs. text_of (pulse_lines xs)) (drop-item ps i p there)
