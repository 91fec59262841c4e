-- The patch with comments, one line after the other.
use Rattle.std.proofs.Common.{◌≡◌, ℕ, ◌++◌, ◌∙◌, true, false, List, [], ◌∷◌, refl, sym, ap, append_assoc, if◌then◌else◌, nat_le}
use Rattle.std.proofs.lemmas.List.{append-nil}
use Rattle.irig_recording.specs.declared.pulse.Pulse.{Pulse}
use Rattle.irig_difference.specs.PatchText.{script_of}
use Rattle.irig_comments.specs.{Comments.comment_text, declared.sides.Sides.Sides}
use Rattle.irig_comments.specs.Sides.{place}
use Rattle.irig_comments.specs.Parts.{Part, begun_by, comments, joined, line_part, lines, notes, not_begun_by, parts_of, stretch_line}

pub joined-append : (xs ys : List Part) → joined (xs ++ ys) ≡ joined xs ++ joined ys
joined-append [] ys = refl
joined-append (x ∷ xs) ys = ap (λ (l : List ℕ). (x.comment ++ x.line) ++ l) (joined-append xs ys)
    ∙ sym (append_assoc (x.comment ++ x.line) (joined xs) (joined ys))

pub lines-append : (xs ys : List Part) → lines (xs ++ ys) ≡ lines xs ++ lines ys
lines-append [] ys = refl
lines-append (x ∷ xs) ys = ap (λ (l : List ℕ). x.line ++ l) (lines-append xs ys) ∙ sym (append_assoc x.line (lines xs) (lines ys))

pub comments-append : (xs ys : List Part) → comments (xs ++ ys) ≡ comments xs ++ comments ys
comments-append [] ys = refl
comments-append (x ∷ xs) ys = ap (λ (l : List ℕ). x.comment ++ l) (comments-append xs ys) ∙ sym (append_assoc x.comment (comments xs) (comments ys))

-- the next change has begun by the end of the next stretch
pub note_first : (s : Sides) (ss : List Sides) (p : Pulse) (ps : List Pulse) → nat_le (place s) p.fall ≡ true
    → joined (parts_of (s ∷ ss) (p ∷ ps)) ≡ comment_text s ++ joined (parts_of ss (p ∷ ps))
note_first s ss p ps h =
    (λ j. joined (notes (if h j then s ∷ begun_by p.fall ss else [])
    ++ line_part (stretch_line p) ∷ parts_of (if h j then not_begun_by p.fall ss else s ∷ ss) ps))
    ∙ ap (λ (l : List ℕ). l ++ joined (parts_of ss (p ∷ ps))) (append-nil (comment_text s))

-- it has not
pub line_first : (s : Sides) (ss : List Sides) (p : Pulse) (ps : List Pulse) → nat_le (place s) p.fall ≡ false
    → joined (parts_of (s ∷ ss) (p ∷ ps)) ≡ stretch_line p ++ joined (parts_of (s ∷ ss) ps)
line_first s ss p ps h =
    (λ j. joined (notes (if h j then s ∷ begun_by p.fall ss else [])
    ++ line_part (stretch_line p) ∷ parts_of (if h j then not_begun_by p.fall ss else s ∷ ss) ps))

-- there are no more changes
pub line_only : (p : Pulse) (ps : List Pulse) → joined (parts_of [] (p ∷ ps)) ≡ stretch_line p ++ joined (parts_of [] ps)
line_only p ps = refl

-- there are no more stretches
pub note_only : (s : Sides) (ss : List Sides) → joined (parts_of (s ∷ ss) []) ≡ comment_text s ++ joined (parts_of ss [])
note_only s ss = ap (λ (l : List ℕ). l ++ joined (parts_of ss [])) (append-nil (comment_text s))

lines-notes : (ss : List Sides) → lines (notes ss) ≡ []
lines-notes [] = refl
lines-notes (s ∷ ss) = lines-notes ss

pub lines-parts_of : (ss : List Sides) (ps : List Pulse) → lines (parts_of ss ps) ≡ script_of ps
lines-parts_of ss [] = lines-notes ss
lines-parts_of ss (p ∷ ps) =
    lines-append (notes (begun_by p.fall ss)) (line_part (stretch_line p) ∷ parts_of (not_begun_by p.fall ss) ps)
    ∙ ap (λ (l : List ℕ). l ++ (stretch_line p ++ lines (parts_of (not_begun_by p.fall ss) ps))) (lines-notes (begun_by p.fall ss))
    ∙ ap (λ (l : List ℕ). stretch_line p ++ l) (lines-parts_of (not_begun_by p.fall ss) ps)

begun_both : (t : ℕ) (ss : List Sides) → comments (notes (begun_by t ss)) ++ comments (notes (not_begun_by t ss)) ≡ comments (notes ss)
begun_both t [] = refl
begun_both t (s ∷ ss) = elim (nat_le (place s) t) as (λ v. comments (notes (if v then s ∷ begun_by t ss else []))
    ++ comments (notes (if v then not_begun_by t ss else s ∷ ss)) ≡ comments (notes (s ∷ ss))) [
      | true ↦ append_assoc (comment_text s) (comments (notes (begun_by t ss))) (comments (notes (not_begun_by t ss)))
          ∙ ap (λ (l : List ℕ). comment_text s ++ l) (begun_both t ss)
      | false ↦ refl
    ]

-- the comments are those on the changes, in order
pub comments-parts_of : (ss : List Sides) (ps : List Pulse) → comments (parts_of ss ps) ≡ comments (notes ss)
comments-parts_of ss [] = refl
comments-parts_of ss (p ∷ ps) =
    comments-append (notes (begun_by p.fall ss)) (line_part (stretch_line p) ∷ parts_of (not_begun_by p.fall ss) ps)
    ∙ ap (λ (l : List ℕ). comments (notes (begun_by p.fall ss)) ++ l) (comments-parts_of (not_begun_by p.fall ss) ps)
    ∙ begun_both p.fall ss
