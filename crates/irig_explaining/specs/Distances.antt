-- How far rises are apart, and how many elements that is by the clock. This project's own.
use Rattle.std.specs.Prelude.{ℕ, ◌+◌, ◌-◌, ◌*◌, ◌/◌, ◌&&◌, Bool, true, max, min, nat_lt}
use Rattle.std.specs.Prelude.{slice_index_or, if◌then◌else◌}
use Rattle.std.specs.Int.{abs_diff}
use Rattle.irig_explaining.specs.declared.{prices.Prices.Prices, table.TheConstants.PART}

-- a rise, in microseconds, and the interval at it, in parts
abbrev pub rise_at : Prices → ℕ → ℕ
rise_at p r = (slice_index_or p.pulses.now r (record { rise = 0; fall = 0 })).rise

abbrev pub interval_at : Prices → ℕ → ℕ
interval_at p r = slice_index_or p.clock.now.intervals.items r 0

-- how far two rises are apart, in parts, and the interval of the clock there
abbrev pub apart : Prices → ℕ → ℕ → ℕ
apart p r q = PART * (rise_at p q - rise_at p r)

abbrev pub interval : Prices → ℕ → ℕ → ℕ
interval p r q = (interval_at p r + interval_at p q) / 2

-- how many elements the clock says lie between two rises, at least one
abbrev pub gone : Prices → ℕ → ℕ → ℕ
gone p r q = max 1 ((2 * apart p r q + interval p r q) / (2 * interval p r q))

-- how far a rise is off its place that many elements after another one, in parts
abbrev pub far : Prices → ℕ → ℕ → ℕ → ℕ
far p r q count = abs_diff (apart p r q) (count * interval p r q)

-- what that costs, by the spread of that many elements
abbrev pub late : Prices → ℕ → ℕ → ℕ
late p off count =
    32 * off * off / (p.clock.now.spread * p.clock.now.spread)
    / (4 + min count 1048576 * min count 1048576)

-- a rise is not that many elements after another one: it is off by more than four intervals, or by
-- nine twentieths of one and much more than usual
abbrev pub is_off : Prices → ℕ → ℕ → ℕ → Bool
is_off p interval off count =
    if nat_lt (4 * interval) off then true
    else nat_lt (9 * interval) (20 * off) && nat_lt 72 (late p off count)
