-- When the frames next to a frame bear out its time. This project's own.
use Rattle.std.specs.Prelude.{◌&&◌, ◌||◌, Bool, true, false, nat_le, is_some, Option, Some, None}
use Rattle.irig_codes.specs.Format.{FormatView}
use Rattle.irig_safety.specs.Bearing.{allows, is_within, leads}
use Rattle.irig_safety.specs.Clocks.{is_by_clock, is_by_near_clock}
use Rattle.irig_safety.specs.{Heard.heard, OwnClock.is_on_own_clock}
use Rattle.irig_safety.specs.declared.shown.Shown.{Shown}
use Rattle.irig_safety.specs.declared.witnesses.Witnesses.{Witnesses}

-- the frame before it leads to a frame, or it leads to the one after it. If both are there and
-- agree, they stray no more from it than from each other, but for half an interval
abbrev pub is_led : FormatView → Option Shown → Option Shown → Shown → Bool
is_led f None None y = false
is_led f (Some a) None y = leads f a y
is_led f None (Some b) y = leads f y b
is_led f (Some a) (Some b) y =
    (leads f a y && is_within f a b a y) || (leads f y b && is_within f a b y b)

-- a frame and one that may be there, before it or after it
abbrev pub allows_from : FormatView → Option Shown → Shown → Bool
allows_from f None y = true
allows_from f (Some a) y = allows f a y

abbrev pub allows_to : FormatView → Shown → Option Shown → Bool
allows_to f y None = true
allows_to f y (Some b) = allows f y b

-- the two frames before it show the clock
abbrev pub is_by_clock_before : FormatView → Option Shown → Shown → Shown → Bool
is_by_clock_before f None a y = false
is_by_clock_before f (Some a2) a y = is_by_clock f a2 a a y

-- the two frames after it show the clock
abbrev pub is_by_clock_after : FormatView → Shown → Shown → Option Shown → Bool
is_by_clock_after f y b None = false
is_by_clock_after f y b (Some b2) = is_by_clock f b b2 y b

-- the two frames before it, or the two after it, are next to each other and to it, and show the
-- clock
abbrev pub is_by_near_clock_before : FormatView → Option Shown → Shown → Shown → Bool
is_by_near_clock_before f None a y = false
is_by_near_clock_before f (Some a2) a y = is_by_near_clock f a2 a a y

abbrev pub is_by_near_clock_after : FormatView → Shown → Shown → Option Shown → Bool
is_by_near_clock_after f y b None = false
is_by_near_clock_after f y b (Some b2) = is_by_near_clock f b b2 y b

-- it is in time by the clock of the frames on both sides, or of two frames next to it; if one side
-- has none, by that of the two of the other
abbrev pub is_timed : FormatView → Option Shown → Option Shown → Option Shown → Option Shown
    → Shown → Bool
is_timed f a2 None None b2 y = false
is_timed f a2 (Some a) None b2 y = is_by_clock_before f a2 a y
is_timed f a2 None (Some b) b2 y = is_by_clock_after f y b b2
is_timed f a2 (Some a) (Some b) b2 y =
    is_by_clock f a b a y || is_by_near_clock_before f a2 a y || is_by_near_clock_after f y b b2

-- an inserted second is borne out from both sides alone
abbrev pub sides_suffice : Option Shown → Option Shown → Shown → Bool
sides_suffice a b y = nat_le y.fields.seconds 59 || (is_some a && is_some b)

-- of the two frames before it and the two after it one leads to it, or it is in time by their
-- clock; and the nearest on both sides do not contradict it. Or it is where the recording's own
-- clock has it
abbrev pub bears : FormatView → Witnesses → Shown → Bool
bears f w y =
    (((is_led f w.before w.after y || is_timed f w.before2 w.before w.after w.after2 y)
    && (allows_from f w.before y && allows_to f y w.after))
    || is_on_own_clock f w.before2 w.before w.after w.after2 y) && sides_suffice w.before w.after y

-- those that are heard bear it out
abbrev pub is_borne : FormatView → Option Shown → Option Shown → Option Shown → Option Shown
    → Shown → Bool
is_borne f a2 a b b2 y = bears f (heard f a2 a b b2) y
