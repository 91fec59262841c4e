-- When a frame between others begins by the clock of the recording, which may be off and may
-- wander. This project's own.
use Rattle.std.specs.Prelude.{◌+◌, ◌-◌, ◌*◌, ◌/◌, ◌==◌, ◌&&◌, ◌||◌, ℕ, Bool, false, nat_le}
use Rattle.std.specs.Prelude.{Option, Some, None, if◌then◌else◌}
use Rattle.irig_codes.specs.Format.{FormatView, frame_period_of, interval_of}
use Rattle.irig_safety.specs.Bearing.{apart, distance, stray}
use Rattle.irig_safety.specs.Calendar.{is_later, periods}
use Rattle.irig_safety.specs.Clocks.{is_in_time, shows_any_clock}
use Rattle.irig_safety.specs.declared.shown.Shown.{Shown}

-- the times of the frames are whole frame periods apart, on a clock that is off by 8 in 100 at most
abbrev pub is_near_nominal : FormatView → Shown → Shown → Bool
is_near_nominal f x y =
    is_later f x y && nat_le (25 * stray f x y) (2 * (periods f x y * frame_period_of f.kind))

-- x and y are no more than a hundred times as far from each other as p and q, so that the clock of
-- p and q says how many frame periods they are apart
abbrev pub is_in_reach : FormatView → Shown → Shown → Shown → Shown → Bool
is_in_reach f p q x y = nat_le (periods f x y) (100 * periods f p q)

-- x and y show the clock that p and q show, to half an interval, and are in reach of it
abbrev pub is_same_clock : FormatView → Shown → Shown → Shown → Shown → Bool
is_same_clock f p q x y =
    shows_any_clock f p q && is_near_nominal f x y && is_in_reach f p q x y
    && is_in_time f p q x y

-- the frames on both sides show the clock of the two before, or of the two after
abbrev pub keeps_clock_before : FormatView → Option Shown → Shown → Shown → Bool
keeps_clock_before f None a b = false
keeps_clock_before f (Some a2) a b = is_same_clock f a2 a a b

abbrev pub keeps_clock_after : FormatView → Shown → Shown → Option Shown → Bool
keeps_clock_after f a b None = false
keeps_clock_after f a b (Some b2) = is_same_clock f b b2 a b

-- how many microseconds n frame periods take on the clock of p and q
abbrev pub micros_by_clock : FormatView → Shown → Shown → ℕ → ℕ
micros_by_clock f p q n = if periods f p q == 0 then 0 else n * distance p q / periods f p q

-- a distance is between what two clocks say, to half an interval, and they differ by six intervals
-- at most
abbrev pub is_between_clocks : ℕ → ℕ → ℕ → ℕ → Bool
is_between_clocks i one other d =
    nat_le (apart one other) (6 * i) && (nat_le one (d + i / 2) || nat_le other (d + i / 2))
    && (nat_le (d - i / 2) one || nat_le (d - i / 2) other)

-- the clock wanders: the frames on both sides are as far apart as lies between what the clock of
-- the two before says and that of the two after
abbrev pub is_wandering : FormatView → Option Shown → Shown → Shown → Option Shown → Bool
is_wandering f None a b b2 = false
is_wandering f (Some a2) a b None = false
is_wandering f (Some a2) a b (Some b2) =
    shows_any_clock f a2 a && shows_any_clock f b b2 && is_near_nominal f a b
    && is_in_reach f a2 a a b
    && is_between_clocks (interval_of f.kind) (micros_by_clock f a2 a (periods f a b))
    (micros_by_clock f b b2 (periods f a b)) (distance a b)

-- so it is the recording's own: by that clock y begins when it should after the first, and the
-- second after y
abbrev pub is_by_own_clock : FormatView → Option Shown → Shown → Shown → Option Shown → Shown → Bool
is_by_own_clock f a2 a b b2 y =
    (keeps_clock_before f a2 a b || keeps_clock_after f a b b2 || is_wandering f a2 a b b2)
    && is_in_time f a b a y && is_in_time f a b y b

-- so by the frames next to it, if there are some on both sides
abbrev pub is_on_own_clock : FormatView → Option Shown → Option Shown → Option Shown → Option Shown
    → Shown → Bool
is_on_own_clock f a2 None b b2 y = false
is_on_own_clock f a2 (Some a) None b2 y = false
is_on_own_clock f a2 (Some a) (Some b) b2 y = is_by_own_clock f a2 a b b2 y
