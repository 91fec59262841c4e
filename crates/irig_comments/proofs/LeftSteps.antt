-- What is left of the patch with comments, after one line more.
use Rattle.std.proofs.Common.{◌≡◌, ◌++◌, ◌∙◌, ◌==◌, ◌&&◌, ◌||◌, Bool, true, false, not, List, ℕ, [], ◌∷◌, Option, Some, None, refl, sym, ap, append_assoc, if◌then◌else◌, nat_le, is_none}
use Rattle.std.specs.Prelude.{MatchOption}
use Rattle.std.proofs.lemmas.List.{append-nil}
use Rattle.irig_recording.specs.{declared.pulse.Pulse.Pulse}
use Rattle.irig_difference.specs.{PatchText.length_note, Stretches.stretches_between}
use Rattle.irig_comments.specs.{Comments.comment_text, Counts.counts_between, Counts.counts_text, Framed.FramedView}
use Rattle.irig_comments.specs.Left.{first_change, last_counts, last_if, last_left, lines_text, text_left, with_change, with_stretch}
use Rattle.irig_comments.specs.Parts.{comment_part, joined, parts_of, stretch_line}
use Rattle.irig_comments.specs.Commented.{commented_text, has_some, is_other, last_text}
use Rattle.irig_comments.specs.{Sides.changes, Sides.place, declared.counts.Counts.Counts, declared.sides.Sides.Sides}
use Rattle.irig_comments.proofs.PartSteps.{joined-append, line_first, line_only, note_first, note_only}

-- the first of a list, and the rest
pub next_change : (next : Option Sides) (old new : List Sides) → MatchOption next ((old ≡ []) × (new ≡ [])) (λ s. old ≡ s ∷ new) → with_change next new ≡ old
next_change None old new h = sym h.0
next_change (Some s) old new h = sym h

pub next_stretch : (next : Option Pulse) (old new : List Pulse) → MatchOption next ((old ≡ []) × (new ≡ [])) (λ p. old ≡ p ∷ new) → with_stretch next new ≡ old
next_stretch None old new h = sym h.0
next_stretch (Some p) old new h = sym h

-- a comment comes first
pub first_note : (next : Option Sides) (ss : List Sides) (stretch : Option Pulse) (ps : List Pulse) (s : Sides) → first_change next stretch ≡ Some s
    → joined (parts_of (with_change next ss) (with_stretch stretch ps)) ≡ comment_text s ++ joined (parts_of ss (with_stretch stretch ps))
first_note None ss stretch ps s h = absurd (cc)
first_note (Some z) ss None ps s h = (let same : z ≡ s = cc in ap (λ c. joined (parts_of (c ∷ ss) [])) same ∙ note_only s ss)
first_note (Some z) ss (Some p) ps s h = by_test (nat_le (place z) p.fall) refl h
  where
    by_test : (v : Bool) → nat_le (place z) p.fall ≡ v → (if v then Some z else None) ≡ Some s
        → joined (parts_of (z ∷ ss) (p ∷ ps)) ≡ comment_text s ++ joined (parts_of ss (p ∷ ps))
    by_test true e h = note_first z ss p ps e ∙ (let same : z ≡ s = cc in ap (λ c. comment_text c ++ joined (parts_of ss (p ∷ ps))) same)
    by_test false e h = absurd (cc)

-- a line comes first
pub first_line : (next : Option Sides) (ss : List Sides) (p : Pulse) (ps : List Pulse) → first_change next (Some p) ≡ None
    → joined (parts_of (with_change next ss) (p ∷ ps)) ≡ stretch_line p ++ joined (parts_of (with_change next ss) ps)
first_line None ss p ps h = line_only p ps
first_line (Some z) ss p ps h = by_test (nat_le (place z) p.fall) refl h
  where
    by_test : (v : Bool) → nat_le (place z) p.fall ≡ v → (if v then Some z else None) ≡ None
        → joined (parts_of (z ∷ ss) (p ∷ ps)) ≡ stretch_line p ++ joined (parts_of (z ∷ ss) ps)
    by_test true e h = absurd (cc)
    by_test false e h = line_first z ss p ps e

-- nothing is left but the last line
pub none_first : (next : Option Sides) (ss : List Sides) → first_change next None ≡ None → joined (parts_of (with_change next ss) []) ≡ []
none_first None ss h = refl
none_first (Some z) ss h = absurd (cc)

-- the recordings differ by their first stretch
last_by_stretch : (v : Bool) (counts : Counts) (ps : List Pulse) (next : Option Pulse) (rest : List Pulse) → with_stretch next rest ≡ ps
    → (if v && is_none next then None else Some counts) ≡ (if not v || has_some ps then Some counts else None)
last_by_stretch false counts ps next rest h = refl
last_by_stretch true counts ps None rest h = ap (λ l. if has_some l then Some counts else None) h
last_by_stretch true counts ps (Some p) rest h = ap (λ l. if has_some l then Some counts else None) h

pub last_is : (b a : FramedView) (next : Option Pulse) (rest : List Pulse) → with_stretch next rest ≡ stretches_between b.recording a.recording
    → last_if b a next ≡ last_counts b a
last_is b a next rest h =
    last_by_stretch (b.recording.micros == a.recording.micros) (counts_between b a) (stretches_between b.recording a.recording) next rest h

last_text-counts : (b a : FramedView) → last_left (last_counts b a) ≡ last_text b a
last_text-counts b a = elim (is_other b.recording a.recording) as (λ v. last_left (if v then Some (counts_between b a) else None)
    ≡ (if v then counts_text (counts_between b a) else [])) [
      | true ↦ refl
      | false ↦ refl
    ]

-- the text is what is left at its beginning
pub text_is : (b a : FramedView)
    → text_left false b.recording.micros a.recording.micros (lines_text (changes b a) (stretches_between b.recording a.recording) (last_counts b a))
    ≡ commented_text b a
text_is b a =
    let all = parts_of (changes b a) (stretches_between b.recording a.recording) in
    ap (λ (l : List ℕ). length_note b.recording.micros a.recording.micros ++ l)
    (ap (λ (l : List ℕ). joined all ++ l) (last_text-counts b a ∙ sym (append-nil (last_text b a)) ∙ sym (append-nil (last_text b a ++ [])))
    ∙ sym (joined-append all (comment_part (last_text b a) ∷ [])))

-- a text was added to a block
pub after_line : (old new text joint last : List ℕ) → new ≡ old ++ text → new ++ (joint ++ last) ≡ old ++ ((text ++ joint) ++ last)
after_line old new text joint last e =
    ap (λ (l : List ℕ). l ++ (joint ++ last)) e ∙ append_assoc old text (joint ++ last) ∙ ap (λ (l : List ℕ). old ++ l) (sym (append_assoc text joint last))
