-- Which elements carry the time of their frame, and when a pulse says another one. This project's
-- own.
use Rattle.std.specs.Prelude.{ℕ, ◌+◌, ◌&&◌, ◌||◌, nat_le, nat_lt, Bool, true, false, Option, Some}
use Rattle.std.specs.Prelude.{None}
use Rattle.irig_codes.specs.Format.{FormatView, carries_sbs, has_year}
use Rattle.irig_codes.specs.declared.format.Kind.TheVariants.{A, G}
use Rattle.irig_codes.specs.declared.width.Element.TheVariants.{Zero, One, Position}
use Rattle.irig_codes.specs.{declared.format.Kind.Kind, declared.width.Element.Element}
use Rattle.irig_recording.specs.declared.pulse.Pulse.{Pulse}
use Rattle.irig_index.specs.Marker.{class_at, is_position}

-- how many elements carry the day, the hour, the minute, the second and, in A and G, its tenths and
-- hundredths, with what is between them
abbrev pub time_elements : Kind → ℕ
time_elements A = 49
time_elements G = 54
time_elements kind = 42

-- the first of the nine elements of the year
abbrev pub first_of_year : Kind → ℕ
first_of_year G = 60
first_of_year kind = 50

abbrev pub has_year_at : FormatView → ℕ → Bool
has_year_at f e =
    has_year f.expression
    && (nat_le (first_of_year f.kind) e && nat_lt e (first_of_year f.kind + 9))

-- the elements of the straight binary seconds
abbrev pub has_sbs_at : FormatView → ℕ → Bool
has_sbs_at f e = carries_sbs f.kind f.expression && (nat_le 80 e && nat_lt e 98)

-- an element carries a part of the time: one of those, of the year, or of the straight binary
-- seconds, with what is between their digits
abbrev pub is_timed : FormatView → ℕ → Bool
is_timed f e = nat_lt e (time_elements f.kind) || (has_year_at f e || has_sbs_at f e)

-- whether a class is not the one that is wanted
abbrev pub is_other : Option Element → Element → Bool
is_other None e = false
is_other (Some Zero) Zero = false
is_other (Some One) One = false
is_other (Some Position) Position = false
is_other (Some c) e = true

-- whether an element is a position identifier
abbrev pub is_identifier : Element → Bool
is_identifier Position = true
is_identifier e = false

-- whether a pulse of a class says that an element is another one: one of the two is a position
-- identifier, or the element carries a part of the time
abbrev pub contradicts_by : FormatView → ℕ → Option Element → Element → Bool
contradicts_by f e c w = is_other c w && (is_identifier w || (is_position c || is_timed f e))

abbrev pub contradicts : FormatView → ℕ → Option Pulse → Option Element → Bool
contradicts f e (Some p) (Some w) = contradicts_by f e (class_at f p) w
contradicts f e p w = false
