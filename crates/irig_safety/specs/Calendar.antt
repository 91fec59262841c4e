-- How much later the time of one frame is than that of another, by the calendar. This project's
-- own.
use Rattle.std.specs.Prelude.{◌+◌, ◌-◌, ◌*◌, ◌/◌, ◌%◌, ◌==◌, ◌&&◌, ◌||◌, ℕ, Bool, true, false, not}
use Rattle.std.specs.Prelude.{nat_lt, if◌then◌else◌, Option, Some, None, unwrap_or}
use Rattle.irig_codes.specs.Format.{FormatView}
use Rattle.irig_codes.specs.declared.fields.Fields.{Fields}
use Rattle.irig_moment.specs.Generated.{period_of}
use Rattle.irig_safety.specs.declared.shown.Shown.{Shown}

-- the hundredths of a second from the beginning of the year
abbrev pub clock_of : Fields → ℕ
clock_of g =
    8640000 * g.days + 360000 * g.hours + 6000 * g.minutes + 100 * g.seconds
    + unwrap_or g.hundredths 0

-- the second year is the first or the one after it, or neither is known
abbrev pub is_near_year : Option ℕ → Option ℕ → Bool
is_near_year None None = true
is_near_year None (Some b) = false
is_near_year (Some a) None = false
is_near_year (Some a) (Some b) = (a == b) || ((a + 1) % 100 == b)

-- how many hundredths of a second a year of that many days has
abbrev pub year_of : Bool → ℕ
year_of is_long = if is_long then 3162240000 else 3153600000

-- how many hundredths of a second an inserted second 60 adds before the second frame
abbrev pub inserted_of : Fields → Fields → ℕ
inserted_of g h = if (g.seconds == 60) && not (h.seconds == 60) then 100 else 0

-- by how many hundredths of a second the year of the second fields begins after that of the first.
-- If the years are not known, time that goes back goes into the next year, after 366 days if the
-- first are of day 366
abbrev pub turn_of : Option ℕ → Option ℕ → Fields → Fields → ℕ
turn_of None None g h =
    if nat_lt (clock_of h + inserted_of g h) (clock_of g) then year_of (g.days == 366) else 0
turn_of None (Some b) g h = 0
turn_of (Some a) None g h = 0
turn_of (Some a) (Some b) g h = if (a + 1) % 100 == b then year_of (a % 4 == 0) else 0

-- the time of the second frame, on the clock of the year of the first
abbrev pub clock_after : Shown → Shown → ℕ
clock_after a b =
    clock_of b.fields + turn_of a.fields.year b.fields.year a.fields b.fields
    + inserted_of a.fields b.fields

-- how many whole frame periods a time is after another
abbrev pub periods : FormatView → Shown → Shown → ℕ
periods f a b = (clock_after a b - clock_of a.fields) / period_of f

-- the first time is in second 60 of a minute, and the second in that minute before it
abbrev pub goes_back : Fields → Fields → Bool
goes_back g h =
    (g.seconds == 60) && not (h.seconds == 60) && (g.days == h.days) && (g.hours == h.hours)
    && (g.minutes == h.minutes)

-- the second time is whole frame periods after the first, one at least, and no later than in the
-- next year
abbrev pub is_later : FormatView → Shown → Shown → Bool
is_later f a b =
    not (goes_back a.fields b.fields)
    && nat_lt (clock_of a.fields) (clock_after a b)
    && is_near_year a.fields.year b.fields.year
    && (clock_of a.fields + periods f a b * period_of f == clock_after a b)
