-- The patch with comments: lines, some of them comments. This project's own.
use Rattle.std.specs.Prelude.{◌++◌, ℕ, List, [], ◌∷◌, codes}
use Rattle.std.specs.Prelude.{map, nat_le, if◌then◌else◌}
use Rattle.std.specs.List.{AllByRecursion}
use Rattle.irig_recording.specs.declared.pulse.Pulse.{Pulse}
use Rattle.irig_difference.specs.PatchText.{line_of}
use Rattle.irig_comments.specs.{Comments.IsComment, Comments.comment_text}
use Rattle.irig_comments.specs.{Sides.place}
use Rattle.irig_comments.specs.declared.sides.Sides.{Sides}

-- a comment on frames, or a line of the patch
pub record Part : Type 0 where
  pub comment : List ℕ
  pub line : List ℕ

-- a comment
abbrev pub comment_part : List ℕ → Part
comment_part text = record { comment = text; line = [] }

-- a line
abbrev pub line_part : List ℕ → Part
line_part text = record { comment = []; line = text }

-- the line that inverts the level in a stretch
abbrev pub stretch_line : Pulse → List ℕ
stretch_line p = line_of (codes "invert") p.rise p.fall

-- the comments on some changes
abbrev pub notes : List Sides → List Part
notes = map (λ s. comment_part (comment_text s))

-- the changes that begin by a time, up to the first that does not
abbrev pub begun_by : ℕ → List Sides → List Sides
begun_by t [] = []
begun_by t (s ∷ ss) = if nat_le (place s) t then s ∷ begun_by t ss else []

-- the others
abbrev pub not_begun_by : ℕ → List Sides → List Sides
not_begun_by t [] = []
not_begun_by t (s ∷ ss) = if nat_le (place s) t then not_begun_by t ss else s ∷ ss

-- changes and stretches by time: a frame comes before the first stretch that does not end before it
abbrev pub parts_of : List Sides → List Pulse → List Part
parts_of cs [] = notes cs
parts_of cs (p ∷ ps) =
    notes (begun_by p.fall cs)
    ++ line_part (stretch_line p) ∷ parts_of (not_begun_by p.fall cs) ps

-- all of it
abbrev pub joined : List Part → List ℕ
joined [] = []
joined (x ∷ xs) = (x.comment ++ x.line) ++ joined xs

-- without the comments
abbrev pub lines : List Part → List ℕ
lines [] = []
lines (x ∷ xs) = x.line ++ lines xs

-- the comments alone
abbrev pub comments : List Part → List ℕ
comments [] = []
comments (x ∷ xs) = x.comment ++ comments xs

-- each comment is one, or nothing
abbrev pub AreComments : List Part → Type 0
AreComments parts = AllByRecursion (λ x. IsComment x.comment) parts
