-- What is seen of a line, by which lines are counted. This project's own.
use Rattle.std.specs.Prelude.{◌-◌, ◌*◌, ◌==◌, ◌&&◌, ℕ, suc, Bool, true, false, nat_le, nat_lt, List, [], ◌∷◌}
use Rattle.std.specs.Prelude.{Option, Some, None, is_some, if◌then◌else◌}
use Rattle.irig_track.specs.Looks.{counted}
use Rattle.irig_stamps.specs.{Columns.is_digit, Widths.width_of, declared.picos.Picos.Picos}
use Rattle.irig_stamps.specs.{declared.look.Look.Look, declared.settings.Settings.Settings}
use Rattle.irig_stamps.specs.{HeaderUnits.names_other_unit}
use Rattle.irig_stamps.specs.{Outs.is_header, Stamps.added, Stamps.picos_in, Stamps.taken}

-- when the recorder's time v is, in picoseconds after the start of the track, if it is in the track
abbrev pub moment_at : Settings → Picos → Option ℕ
moment_at s v =
    if nat_le (taken s v) (added s v) && nat_lt (added s v - taken s v) (1000000 * s.micros)
    then Some (added s v - taken s v) else None

-- the same of the number in a column, if there is one
abbrev pub moment_of : Settings → Option Picos → Option ℕ
moment_of s None = None
moment_of s (Some v) = moment_at s v

-- whether a text begins with a digit: of what comes out for a line this says that it has a time,
-- since each time begins with one, and no other word before a line does
abbrev pub begins : List ℕ → Bool
begins [] = false
begins (b ∷ bs) = is_digit b

-- what is seen of a line of the header, if n lines are before it: it needs no number, and has no
-- time
abbrev pub header_look : Settings → ℕ → List ℕ → Look
header_look s n line = record {
  number = counted n 1;
  width = width_of s.comma line;
  header = true;
  other_unit = (counted n 1 == s.header) && names_other_unit s line;
  numbered = true;
  timed = false;
  moment = None;
}

-- what is seen of another line, for which this comes out
abbrev pub line_look : Settings → ℕ → List ℕ → List ℕ → Look
line_look s n line out = record {
  number = counted n 1;
  width = width_of s.comma line;
  header = false;
  other_unit = false;
  numbered = is_some (picos_in s line);
  timed = begins out;
  moment = moment_of s (picos_in s line);
}

-- what is seen of a line, if n lines are before it
abbrev pub look_at : Settings → ℕ → List ℕ → List ℕ → Look
look_at s n line out = if is_header s n then header_look s n line else line_look s n line out

-- what is seen of lines, each with what comes out for it; n lines are before
abbrev pub looks : Settings → ℕ → List (List ℕ) → List (List ℕ) → List Look
looks s n [] outs = []
looks s n (line ∷ lines) [] = []
looks s n (line ∷ lines) (out ∷ outs) = look_at s n line out ∷ looks s (suc n) lines outs
