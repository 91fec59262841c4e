-- The lines that `list`, `marks` and `info` print. This project's own.
use Rattle.std.specs.Prelude.{ℕ, ◌+◌, List, [], ◌++◌, Option, Some, None, codes, decimal}
use Rattle.std.specs.Prelude.{length, take}
use Rattle.irig_codes.specs.Words.{kind_word}
use Rattle.irig_track.specs.Splices.{piece}
use Rattle.irig_saved.specs.Letters.{letter_word}
use Rattle.irig_edit.specs.State.State.{State, frames_of}
use Rattle.irig_script.specs.Obey.Machine.{Machine}
use Rattle.irig_print.specs.{Numbered.numbered, PulseLine.pulse_line}

-- a line for each of this many pulses after the first `before`
abbrev pub list_text : ℕ → ℕ → State → List ℕ
list_text before count s = numbered (pulse_line s.format) (before + 1) (piece before count s.pulses)

-- the mark of a letter, if it is set
abbrev pub mark_line : ℕ → Option ℕ → List ℕ
mark_line letter None = []
mark_line letter (Some t) = letter_word letter ++ codes " " ++ decimal t ++ codes "\n"

-- a line for each of the marks a to z that is set
abbrev pub marks_text : State → List ℕ
marks_text s = numbered mark_line 0 (take 26 s.marks)

-- counts, format and cursor
abbrev pub info_text : Machine → List ℕ
info_text m =
    codes "length " ++ decimal m.state.micros
    ++ codes " pulses " ++ decimal (length m.state.pulses)
    ++ codes " frames " ++ decimal (length (frames_of m.state))
    ++ codes " format " ++ kind_word m.state.format.kind
    ++ codes " " ++ decimal m.state.format.expression
    ++ codes " cursor " ++ decimal m.cursor
    ++ codes " past " ++ decimal (length m.past)
    ++ codes " future " ++ decimal (length m.future) ++ codes "\n"
