-- What is left of the text of a saved session while it is given in parts: docs/FORMATS.md, "The
-- saved journal". This project's own.
use Rattle.std.specs.Prelude.{ℕ, List, [], ◌++◌, codes, length, map, reverse}
use Rattle.irig_journal.specs.{History.Step, Journal.Steps, Journal.future_of, Journal.past_of}
use Rattle.irig_saved.specs.SavedText.{count_text, head_lines, singles_lines, steps_lines}
use Rattle.irig_saved.specs.{Lines.text_of, declared.change.Change.Change}
use Rattle.irig_recording.specs.FileText.{file_text}
use Rattle.irig_edit.specs.Changes.Held.{delta_of, deltas_of, single_of}
use Rattle.irig_edit.specs.declared.saved.stage.Stage.TheVariants.{Dump, Back, On, Over}
use Rattle.irig_edit.specs.{Saved.Saved.saved_step, State.State.State, State.State.recording_of}
use Rattle.irig_edit.specs.{declared.changes.turn.Turn.Turn, declared.saved.stage.Stage.Stage}

-- the lines of changes
abbrev pub changes_text : List Turn → List ℕ
changes_text singles = text_of (singles_lines (map single_of singles))

-- the lines of steps
abbrev pub steps_text : List (Step Change) → List ℕ
steps_text steps = text_of (steps_lines (map saved_step steps))

-- the beginning of the section, up to the count of the steps back
abbrev pub opening_text : State → ℕ → Steps Turn → List ℕ
opening_text s cursor j = codes "$comment\n"
    ++ text_of (head_lines s.format.kind s.format.expression cursor s.marks)
    ++ count_text (codes "past") (length (past_of delta_of j))

-- the count of the steps on
abbrev pub middle_text : Steps Turn → List ℕ
middle_text j = count_text (codes "future") (length (future_of delta_of j))

-- from a stage on: the dump, the beginning of the section, the steps back, the count of the steps
-- on, those steps, and the end of the section
abbrev pub parts_left : Stage → List ℕ → List ℕ → List ℕ → List ℕ → List ℕ → List ℕ
parts_left Dump dump opening back middle on =
    dump ++ opening ++ back ++ middle ++ on ++ codes "$end\n"
parts_left Back dump opening back middle on = back ++ middle ++ on ++ codes "$end\n"
parts_left On dump opening back middle on = on ++ codes "$end\n"
parts_left Over dump opening back middle on = []

-- all parts, of a state with its cursor and its journal
abbrev pub parts_text : State → ℕ → Steps Turn → List ℕ
parts_text s cursor j = parts_left Dump (file_text (recording_of s)) (opening_text s cursor j)
    (steps_text (deltas_of (reverse j.past))) (middle_text j) (steps_text (deltas_of j.future))
