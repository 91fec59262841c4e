-- The comment that says what became of frames. This project's own.
use Rattle.std.specs.Prelude.{◌≡◌, ◌⊎◌, ◌==◌, ◌<◌, ◌++◌, ℕ, List, [], ◌∷◌, codes, decimal, length}
use Rattle.std.specs.Prelude.{Option, Some, None, not, true}
use Rattle.std.specs.List.{list_all}
use Rattle.irig_print.specs.FrameLine.{verdict_text}
use Rattle.irig_comments.specs.{declared.shown.Shown.Shown, declared.sides.Sides.Sides}

-- a frame with its number, from 1, and the rise of its marker in microseconds
abbrev pub whole_text : Shown → List ℕ
whole_text s =
    codes "frame " ++ decimal s.number ++ codes " at " ++ decimal s.rise ++ codes ": "
    ++ verdict_text s.verdict

-- the frame before
abbrev pub before_text : Option Shown → List ℕ
before_text None = codes "no frame"
before_text (Some b) = whole_text b

-- the frame after one at the same place: only what is reported of it
abbrev pub after_text : Option Shown → Option Shown → List ℕ
after_text _ None = codes "none"
after_text None (Some a) = whole_text a
after_text (Some b) (Some a) = verdict_text a.verdict

-- the comment on the frames at one place
abbrev pub comment_text : Sides → List ℕ
comment_text s =
    codes "# " ++ before_text s.before ++ codes ", then " ++ after_text s.before s.after
    ++ codes "\n"

-- the text has no newline in it
abbrev pub IsPlain : List ℕ → Type 0
IsPlain text = list_all (λ b. not (b == 10)) text ≡ true

-- nothing, or a line of at most 1,000 bytes that begins with `#`: the editor passes over it
abbrev pub IsComment : List ℕ → Type 0
IsComment text = (text ≡ []) ⊎ ((inside : List ℕ) × IsPlain inside × (length inside < 1000)
    × (text ≡ 35 ∷ (inside ++ 10 ∷ [])))
