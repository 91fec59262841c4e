-- Times in one hour, in minutes of 60 seconds, and within a second 60. Nothing is counted over the
-- end of an hour: a second can have been inserted there. This project's own.
use Rattle.std.specs.Prelude.{ℕ, ◌+◌, ◌-◌, ◌*◌, ◌/◌, ◌%◌, ◌==◌, nat_le, nat_lt, Option, Some, None}
use Rattle.std.specs.Prelude.{if◌then◌else◌}
use Rattle.irig_times.specs.declared.time.Time.{Time}

-- the microseconds since the hour of a time began, and the time in its hour by them
abbrev pub hour_micros : Time → ℕ
hour_micros t = 60000000 * t.minutes + t.micros

abbrev pub at_hour : Time → ℕ → Time
at_hour t u = record t { minutes = u / 60000000; micros = u % 60000000 }

-- the time in its minute by the microseconds since that began
abbrev pub at_minute : Time → ℕ → Time
at_minute t u = record t { micros = u }

-- the time some microseconds later: out of a second 60 none is known
abbrev pub later_by : ℕ → Time → Option Time
later_by micros t =
    if nat_le 60000000 t.micros
    then (if nat_lt (t.micros + micros) 61000000
    then Some (at_minute t (t.micros + micros)) else None)
    else (if nat_lt (hour_micros t + micros) 3600000000
    then Some (at_hour t (hour_micros t + micros)) else None)

-- the time some microseconds earlier
abbrev pub earlier_by : ℕ → Time → Option Time
earlier_by micros t =
    if nat_le (60000000 + micros) t.micros then Some (at_minute t (t.micros - micros))
    else (if nat_le micros (hour_micros t) then Some (at_hour t (hour_micros t - micros)) else None)

-- the time q periods later, or earlier; no period later it is the time itself
abbrev pub later_in_hour : ℕ → ℕ → Time → Option Time
later_in_hour period q t = if q == 0 then Some t else later_by (q * period) t

abbrev pub earlier_in_hour : ℕ → ℕ → Time → Option Time
earlier_in_hour period q t = if q == 0 then Some t else earlier_by (q * period) t
