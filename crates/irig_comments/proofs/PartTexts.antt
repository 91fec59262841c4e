-- The patch with comments: what it is without them, what they are, and when it has no byte.
use Rattle.std.proofs.Common.{◌≡◌, ◌++◌, ◌∙◌, ◌||◌, true, false, not, List, ℕ, [], ◌∷◌, refl, sym, ap, subst, inl, append_assoc, if◌then◌else◌}
use Rattle.std.specs.Prelude.{◌↔◌}
use Rattle.std.proofs.lemmas.{Bool.eq-eqb, List.append-nil}
use Rattle.irig_recording.specs.{Recording.IsRecording, declared.pulse.Pulse.Pulse}
use Rattle.irig_difference.specs.{PatchText.length_note, PatchText.patch_text, PatchText.script_of, Stretches.stretches_between}
use Rattle.irig_difference.proofs.PatchTexts.{no_patch, patch-same}
use Rattle.irig_comments.specs.{Counts.counts_between, Counts.counts_text, Framed.FramedView, Framed.IsFramed, Framed.framed}
use Rattle.irig_comments.specs.{Framed.shown_frames, Sides.changes, declared.sides.Sides.Sides}
use Rattle.irig_comments.specs.Parts.{AreComments, Part, begun_by, comment_part, comments, joined}
use Rattle.irig_comments.specs.Commented.{commented_parts, commented_text, has_some, is_other, last_text}
use Rattle.irig_comments.specs.Parts.{line_part, lines, not_begun_by, notes, parts_of, stretch_line}
use Rattle.irig_comments.specs.Comments.{IsComment}
use Rattle.irig_comments.proofs.{FramedViews.frames_rise, FramedViews.framed-by, PlainTexts.comment_is, PlainTexts.counts_are, SameFrames.none_change}
use Rattle.irig_comments.proofs.ShortSides.{AreShort, short-begun_by, short-changes, short-not_begun_by}
use Rattle.irig_comments.proofs.PartSteps.{comments-append, comments-parts_of, lines-append, lines-parts_of}

module _ (b a : FramedView) where
  abbrev all : List Part
  all = parts_of (changes b a) (stretches_between b.recording a.recording)

  abbrev note : List ℕ
  note = length_note b.recording.micros a.recording.micros

  -- without the comments it is the patch
  pub lines-commented_parts : lines (commented_parts b a) ≡ patch_text b.recording a.recording
  lines-commented_parts =
      ap (λ (l : List ℕ). note ++ l)
      (lines-append all (comment_part (last_text b a) ∷ []) ∙ append-nil (lines all) ∙ lines-parts_of (changes b a) (stretches_between b.recording a.recording))

  -- the comments are those on the changes, and the last line
  pub comments-commented_parts : comments (commented_parts b a) ≡ comments (notes (changes b a)) ++ last_text b a
  comments-commented_parts =
      comments-append all (comment_part (last_text b a) ∷ [])
      ∙ ap (λ (l : List ℕ). l ++ (last_text b a ++ [])) (comments-parts_of (changes b a) (stretches_between b.recording a.recording))
      ∙ ap (λ (l : List ℕ). comments (notes (changes b a)) ++ l) (append-nil (last_text b a))

notes_are : (ss : List Sides) (rest : List Part) → AreShort ss → AreComments rest → AreComments (notes ss ++ rest)
notes_are [] rest k h = h
notes_are (s ∷ ss) rest k h = (comment_is s k.0.0 k.0.1, notes_are ss rest k.1 h)

parts_are : (ss : List Sides) (ps : List Pulse) (rest : List Part) → AreShort ss → AreComments rest → AreComments (parts_of ss ps ++ rest)
parts_are ss [] rest k h = notes_are ss rest k h
parts_are ss (p ∷ ps) rest k h =
    let later = parts_of (not_begun_by p.fall ss) ps in
    let line = line_part (stretch_line p) in
    subst AreComments (sym (append_assoc (notes (begun_by p.fall ss)) (line ∷ later) rest))
    (notes_are (begun_by p.fall ss) (line ∷ (later ++ rest)) (short-begun_by p.fall ss k)
    (inl refl, parts_are (not_begun_by p.fall ss) ps rest (short-not_begun_by p.fall ss k) h))

last_is : (b a : FramedView) → IsComment (last_text b a)
last_is b a = elim (is_other b.recording a.recording) as (λ v. IsComment (if v then counts_text (counts_between b a) else [])) [
  | true ↦ counts_are (counts_between b a)
  | false ↦ inl refl
]

-- what is before the lines are comments
pub comments_are : (b a : FramedView) → IsFramed b → IsFramed a → AreComments (commented_parts b a)
comments_are b a x y = (
  inl refl,
  parts_are (changes b a) (stretches_between b.recording a.recording) (comment_part (last_text b a) ∷ []) (short-changes b a x y)
      (last_is b a, tt),
)

-- two texts that have no byte together
none_first : (xs ys : List ℕ) → xs ++ ys ≡ [] → xs ≡ []
none_first [] ys e = refl
none_first (x ∷ xs) ys e = absurd (cc)

none_second : (xs ys : List ℕ) → xs ++ ys ≡ [] → ys ≡ []
none_second [] ys e = e
none_second (x ∷ xs) ys e = absurd (cc)

-- with nothing in all there are no lines
lines-none : (xs : List Part) → joined xs ≡ [] → lines xs ≡ []
lines-none [] e = refl
lines-none (x ∷ xs) e =
    let line = none_second x.comment x.line (none_first (x.comment ++ x.line) (joined xs) e) in
    ap (λ (l : List ℕ). l ++ lines xs) line ∙ lines-none xs (none_second (x.comment ++ x.line) (joined xs) e)

no_stretch : (ps : List Pulse) → script_of ps ≡ [] → ps ≡ []
no_stretch [] e = refl
no_stretch (p ∷ ps) e = absurd (cc)

-- two recordings that are the same, in one format
none_text : (b a : FramedView) → IsFramed b → IsFramed a → b.format ≡ a.format → IsRecording a.recording.micros a.recording.edges → b.recording ≡ a.recording
    → commented_text b a ≡ []
none_text b a x y format is same =
    let views : b ≡ a = framed-by b x ∙ (λ j. framed (format j) (same j)) ∙ sym (framed-by a y) in
    let empty = patch-same b.recording a.recording is same in
    let stretches = stretches_between b.recording a.recording in
    let no_note = none_first (length_note b.recording.micros a.recording.micros) (script_of stretches) empty in
    let none = no_stretch stretches (none_second (length_note b.recording.micros a.recording.micros) (script_of stretches) empty) in
    let quiet : changes b a ≡ [] = ap (λ z. changes z a) views ∙ none_change (shown_frames a) (frames_rise a y) in
    let not_other : is_other b.recording a.recording ≡ false =
    (λ j. not (eq-eqb b.recording.micros a.recording.micros (ap (λ r. r.micros) same) j) || has_some (none j)) in
    let last : last_text b a ≡ [] = ap (λ v. if v then counts_text (counts_between b a) else []) not_other in
    (λ j. joined (line_part (no_note j) ∷ parts_of (quiet j) (none j) ++ comment_part (last j) ∷ []))

-- the text has no byte if the recordings are the same, and only then
pub commented-same : (b a : FramedView) → IsFramed b → IsFramed a → b.format ≡ a.format → IsRecording b.recording.micros b.recording.edges
    → IsRecording a.recording.micros a.recording.edges → (commented_text b a ≡ [] ↔ b.recording ≡ a.recording)
commented-same b a x y format h k = (
  λ none. no_patch b.recording a.recording h k (sym (lines-commented_parts b a) ∙ lines-none (commented_parts b a) none),
  none_text b a x y format k,
)
