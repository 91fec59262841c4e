-- The text of a saved journal: docs/FORMATS.md, "The saved journal". This project's own.
use Rattle.std.specs.Prelude.{◌+◌, ℕ, Bool, true, false, List, [], ◌∷◌, ◌++◌, Option, Some, None}
use Rattle.std.specs.Prelude.{length, map, decimal, codes}
use Rattle.irig_saved.specs.declared.single.Single.TheVariants.{Splice}
use Rattle.irig_saved.specs.declared.change.Change.TheVariants.{One, Group}
use Rattle.irig_saved.specs.{Lines.line, Lines.numbered, Lines.text_of, ChangeWords.single_line}
use Rattle.irig_saved.specs.{declared.single.Single.Single, declared.change.Change.Change}
use Rattle.irig_saved.specs.{declared.step.SavedStep.SavedStep, declared.saved.Saved.Saved}
use Rattle.irig_codes.specs.{Words.kind_word, declared.format.Kind.Kind}
use Rattle.irig_recording.specs.declared.pulse.Pulse.{Pulse}

-- RISE FALL
abbrev pub pulse_line : Pulse → List ℕ
pulse_line p = numbered (decimal p.rise) (p.fall ∷ [])

-- a line for each pulse
abbrev pub pulse_lines : List Pulse → List (List ℕ)
pulse_lines ps = map pulse_line ps

-- the pulses that it inserts
abbrev pub put_of : Single → List Pulse
put_of (Splice at count put) = put
put_of single = []

-- the first line of a change, and those of its pulses
abbrev pub single_lines : Single → List (List ℕ)
single_lines x = single_line x ∷ pulse_lines (put_of x)

-- the lines of changes, one after another
abbrev pub singles_lines : List Single → List (List ℕ)
singles_lines [] = []
singles_lines (x ∷ xs) = single_lines x ++ singles_lines xs

-- those of the change alone, or how many changes there are, and theirs
abbrev pub change_lines : Change → List (List ℕ)
change_lines (One x) = single_lines x
change_lines (Group xs) = numbered (codes "group") (length xs ∷ []) ∷ singles_lines xs

-- at CURSOR, and the change
abbrev pub step_lines : SavedStep → List (List ℕ)
step_lines s = numbered (codes "at") (s.cursor ∷ []) ∷ change_lines s.change

-- the lines of a step before those of its changes: of a group also how many there are
abbrev pub step_head : ℕ → Bool → ℕ → List (List ℕ)
step_head cursor true changes =
    numbered (codes "at") (cursor ∷ []) ∷ numbered (codes "group") (changes ∷ []) ∷ []
step_head cursor false changes = numbered (codes "at") (cursor ∷ []) ∷ []

-- the lines of steps, one after another
abbrev pub steps_lines : List SavedStep → List (List ℕ)
steps_lines [] = []
steps_lines (s ∷ ss) = step_lines s ++ steps_lines ss

-- a line for each set mark, from a letter on
abbrev pub mark_lines : ℕ → List (Option ℕ) → List (List ℕ)
mark_lines x [] = []
mark_lines x (None ∷ ms) = mark_lines (x + 1) ms
mark_lines x (Some t ∷ ms) =
    line (codes "mark") ((x ∷ []) ∷ decimal t ∷ []) ∷ mark_lines (x + 1) ms

-- a word with how many steps there are, and the steps
abbrev pub counted_lines : List ℕ → List SavedStep → List (List ℕ)
counted_lines head steps = numbered head (length steps ∷ []) ∷ steps_lines steps

-- the lines before the steps, from the one that names the journal on: a format, a cursor and marks
abbrev pub head_lines : Kind → ℕ → ℕ → List (Option ℕ) → List (List ℕ)
head_lines kind expression cursor marks =
    codes "irig-journal-1"
    ∷ line (codes "format") (kind_word kind ∷ decimal expression ∷ [])
    ∷ numbered (codes "cursor") (cursor ∷ [])
    ∷ mark_lines 97 marks

-- all lines
abbrev pub saved_lines : Saved → List (List ℕ)
saved_lines s =
    head_lines s.kind s.expression s.cursor s.marks
    ++ counted_lines (codes "past") s.past
    ++ counted_lines (codes "future") s.future

-- the line of a word and a count
abbrev pub count_text : List ℕ → ℕ → List ℕ
count_text head count = numbered head (count ∷ []) ++ 10 ∷ []

-- the text of them
unfoldable pub journal_text : Saved → List ℕ
journal_text s = text_of (saved_lines s)

-- the section of a dump that holds the journal
unfoldable pub journal_section : Saved → List ℕ
journal_section s = codes "$comment\n" ++ journal_text s ++ codes "$end\n"
