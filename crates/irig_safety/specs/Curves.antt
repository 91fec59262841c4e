-- When a pulse is on the curve on which the clock of two frames becomes that of two others. This
-- project's own.
use Rattle.std.specs.Prelude.{◌+◌, ◌-◌, ◌*◌, ◌/◌, ◌==◌, ◌&&◌, ℕ, Bool, false, nat_le, nat_lt}
use Rattle.std.specs.Prelude.{Option, Some, if◌then◌else◌}
use Rattle.irig_codes.specs.Format.{FormatView, interval_of}
use Rattle.irig_safety.specs.{Bearing.apart, Bearing.distance, Calendar.is_later, Calendar.periods}
use Rattle.irig_safety.specs.Clocks.{shows_any_clock}
use Rattle.irig_safety.specs.{Straight.is_straight, declared.turning.Sides.Sides}
use Rattle.irig_safety.specs.{declared.lines.Anchor.Anchor, declared.shown.Shown.Shown}
use Rattle.irig_safety.specs.{declared.witnesses.Witnesses.Witnesses}

-- there are 500 frame periods at most between the two frames before, between those on both sides,
-- and between the two after
abbrev pub are_few : FormatView → Sides → Bool
are_few f s =
    nat_le (periods f s.before2 s.before) 500 && nat_le (periods f s.before s.after) 500
    && nat_le (periods f s.after s.after2) 500

-- how long a frame period is by the clock of the two before, and by that of the two after: both by
-- the same measure
abbrev pub period_before : FormatView → Sides → ℕ
period_before f s = distance s.before2 s.before * periods f s.after s.after2

abbrev pub period_after : FormatView → Sides → ℕ
period_after f s = distance s.after s.after2 * periods f s.before2 s.before

-- the product of how many frame periods both clocks were seen over
abbrev pub clock_scale : FormatView → Sides → ℕ
clock_scale f s = periods f s.before2 s.before * periods f s.after s.after2

-- the frames on both sides are as far apart as the mean of both clocks says, to half an interval
abbrev pub is_mean : FormatView → Sides → Bool
is_mean f s =
    nat_le (apart (2 * (clock_scale f s * distance s.before s.after))
    (periods f s.before s.after * (period_before f s + period_after f s)))
    (clock_scale f s * interval_of f.kind)

-- the clock changes from that of the two before to that of the two after, which are off by 8 in 100
-- at most
abbrev pub changes_evenly : FormatView → Sides → Bool
changes_evenly f s =
    shows_any_clock f s.before2 s.before && shows_any_clock f s.after s.after2
    && is_later f s.before s.after && are_few f s && is_mean f s

-- over how many elements it does, by the measure of both clocks
abbrev pub bend_divisor : FormatView → Sides → ℕ
bend_divisor f s =
    10000 * (clock_scale f s * (2 * periods f s.before s.after
    + (periods f s.before2 s.before + periods f s.after s.after2)))

-- how far the curve is off the line, that many elements after one anchor and before another
abbrev pub bend : FormatView → Sides → ℕ → ℕ → ℕ
bend f s k m =
    if bend_divisor f s == 0 then 0
    else apart (period_before f s) (period_after f s) * (k * m) / bend_divisor f s

-- that much later, if the clock becomes slower; else earlier
abbrev pub straightened : FormatView → Sides → ℕ → ℕ → ℕ
straightened f s by micros =
    if nat_lt (period_before f s) (period_after f s) then micros + by else micros - by

-- a time is on the curve to a tenth of an interval, which is off the line by two intervals at most
abbrev pub is_on_curve_by : FormatView → Sides → Anchor → ℕ → Anchor → Bool
is_on_curve_by f s a t b =
    changes_evenly f s && nat_le (bend f s a.steps b.steps) (2 * interval_of f.kind)
    && is_straight f a (straightened f s (bend f s a.steps b.steps) (t - a.rise)) b

-- so by the four nearest frames, if they are there
abbrev pub is_on_curve : FormatView → Witnesses → Anchor → ℕ → Anchor → Bool
is_on_curve f w a t b = by w.before2 w.before w.after w.after2 where
  by : Option Shown → Option Shown → Option Shown → Option Shown → Bool
  by (Some p2) (Some p) (Some q) (Some q2) =
      is_on_curve_by f (record { before2 = p2; before = p; after = q; after2 = q2 }) a t b
  by p2 p q q2 = false
