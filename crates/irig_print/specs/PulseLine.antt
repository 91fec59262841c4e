-- The line that the command `list` prints of a pulse. This project's own.
use Rattle.std.specs.Prelude.{ℕ, ◌-◌, List, ◌++◌, codes, decimal}
use Rattle.irig_codes.specs.{Width.class_of, Format.FormatView, Words.class_word}
use Rattle.irig_recording.specs.declared.pulse.Pulse.{Pulse}

-- a pulse with its number, from 1
abbrev pub pulse_line : FormatView → ℕ → Pulse → List ℕ
pulse_line f number p =
    decimal number ++ codes " " ++ decimal p.rise ++ codes " " ++ decimal p.fall ++ codes " "
    ++ class_word (class_of f (p.fall - p.rise)) ++ codes "\n"
