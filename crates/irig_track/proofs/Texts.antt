-- The text of a track, pulse by pulse.
use Rattle.std.proofs.Common.{◌≡◌, ℕ, ◌+◌, ◌++◌, true, false, List, [], ◌∷◌, drop, slice_get, Some, sym, ap, refl, ◌∙◌, append_assoc}
use Rattle.irig_recording.specs.FileText.{file_text, header_text, begins_high, lines_at, length_line}
use Rattle.irig_recording.specs.{Recording.recording_view, declared.pulse.Pulse.Pulse}
use Rattle.irig_recording.proofs.WrittenText.{last_or, all_lines, whole_text}
use Rattle.irig_track.specs.{Edges.edges_of, Texts.lines_of, Texts.last_fall, Texts.lines_after, Track.IsTrack}
use Rattle.irig_track.proofs.Items.{drop-item}

lines_of_edges : (ps : List Pulse) → lines_of ps ≡ all_lines true (edges_of ps)
lines_of_edges [] = refl
lines_of_edges (p ∷ ps) = ap (λ (rest : List ℕ). lines_at true p.rise ++ (lines_at false p.fall ++ rest)) (lines_of_edges ps)

last_of_edges : (last : ℕ) (ps : List Pulse) → last_fall last ps ≡ last_or last (edges_of ps)
last_of_edges last [] = refl
last_of_edges last (p ∷ ps) = last_of_edges p.fall ps

-- a text is its header and the lines of its pulses and its length
pub text_by_pulses : (micros : ℕ) (ps : List Pulse) → IsTrack micros ps
    → header_text (begins_high (edges_of ps)) ++ lines_after 0 ps micros ≡ file_text (recording_view micros (edges_of ps))
text_by_pulses micros ps is =
    let header = header_text (begins_high (edges_of ps)) in
    sym (append_assoc header (lines_of ps) (length_line (last_fall 0 ps) micros))
    ∙ (rw (lines_of_edges ps, last_of_edges 0 ps) (whole_text micros (edges_of ps) is.rises is.within))

regroup : (a b c d e : List ℕ) → ((a ++ b) ++ c) ++ (d ++ e) ≡ a ++ ((b ++ (c ++ d)) ++ e)
regroup a b c d e = simp append_assoc

-- one more pulse written
pub more_put : (i micros last next : ℕ) (p : Pulse) (ps : List Pulse) (text longer : List ℕ) → slice_get ps i ≡ Some p
    → longer ≡ (text ++ lines_at true p.rise) ++ lines_at false p.fall → next ≡ p.fall
    → longer ++ lines_after next (drop (i + 1) ps) micros ≡ text ++ lines_after last (drop i ps) micros
more_put i micros last next p ps text longer is lines falls =
    let rest = drop (i + 1) ps in
    let cut : drop i ps ≡ p ∷ rest = drop-item ps i p is in
    ap (λ (t : List ℕ). t ++ lines_after next rest micros) lines
    ∙ (ap (λ n. ((text ++ lines_at true p.rise) ++ lines_at false p.fall) ++ lines_after n rest micros) falls
    ∙ (regroup text (lines_at true p.rise) (lines_at false p.fall) (lines_of rest) (length_line (last_fall p.fall rest) micros)
    ∙ ap (λ qs. text ++ lines_after last qs micros) (sym cut)))
