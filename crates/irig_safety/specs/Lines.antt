-- When a pulse is on the line between two whose place is known. This project's own.
use Rattle.std.specs.Prelude.{◌+◌, ◌-◌, ◌*◌, ◌/◌, ◌&&◌, ◌||◌, ℕ, Bool, false, nat_le}
use Rattle.std.specs.Prelude.{Option, Some, None, if◌then◌else◌}
use Rattle.irig_codes.specs.Format.{FormatView, interval_of}
use Rattle.irig_safety.specs.Bearing.{agrees, apart, distance}
use Rattle.irig_safety.specs.Calendar.{periods}
use Rattle.irig_safety.specs.{Clocks.shows_clock, Curves.is_on_curve, OwnClock.is_on_own_clock}
use Rattle.irig_safety.specs.{Straight.is_straight}
use Rattle.irig_safety.specs.declared.lines.Anchor.{Anchor}
use Rattle.irig_safety.specs.{declared.shown.Shown.Shown, declared.witnesses.Witnesses.Witnesses}

-- the distance of a frame y from one next to it says how many elements it is: both agree, or y is
-- where the recording's own clock has it; and it is 500 frames at most
abbrev pub is_counted : FormatView → Witnesses → Shown → Shown → Shown → Bool
is_counted f w y p q =
    (agrees f p q || is_on_own_clock f w.before2 w.before w.after w.after2 y)
    && nat_le (periods f p q) 500

-- the marker of a frame before a frame, as it is seen from an element of that, if it is counted
abbrev pub from_before : FormatView → Witnesses → Shown → ℕ → Option Shown → Option Anchor
from_before f w y j None = None
from_before f w y j (Some a) =
    if is_counted f w y a y
    then Some (record { steps = 100 * periods f a y + j; rise = a.rise }) else None

-- so of a frame after it
abbrev pub from_after : FormatView → Witnesses → Shown → ℕ → Option Shown → Option Anchor
from_after f w y j None = None
from_after f w y j (Some b) =
    if is_counted f w y y b
    then Some (record { steps = 100 * periods f y b - j; rise = b.rise }) else None

-- those of the nearest frames
abbrev pub marker_before : FormatView → Witnesses → Shown → ℕ → Option Anchor
marker_before f w y j = from_before f w y j w.before

abbrev pub marker_after : FormatView → Witnesses → Shown → ℕ → Option Anchor
marker_after f w y j = from_after f w y j w.after

-- a time is on the line between two anchors, or on the curve on which the clock changes there
abbrev pub is_on_line_between : FormatView → Witnesses → Anchor → ℕ → Anchor → Bool
is_on_line_between f w a t b = is_straight f a (t - a.rise) b || is_on_curve f w a t b

-- that many elements are as long as they nominally are, to a tenth of an interval and a thousandth
abbrev pub fits_nominal : FormatView → ℕ → ℕ → Bool
fits_nominal f steps micros =
    nat_le (1000 * apart micros (steps * interval_of f.kind)) (100 * interval_of f.kind + micros)

-- they are by the clock of two frames, to a tenth of an interval
abbrev pub fits_clock : FormatView → ℕ → ℕ → Shown → Shown → Bool
fits_clock f steps micros p q =
    shows_clock f p q
    && nat_le (apart (micros * periods f p q) (steps * distance p q / 100))
    (periods f p q * (interval_of f.kind / 10))

-- two frames, if they are there
abbrev pub fits_clock_if_both : FormatView → ℕ → ℕ → Option Shown → Option Shown → Bool
fits_clock_if_both f steps micros None q = false
fits_clock_if_both f steps micros (Some p) None = false
fits_clock_if_both f steps micros (Some p) (Some q) = fits_clock f steps micros p q

-- by that of the two nearest frames: one on each side, or the two of one side if the other has none
abbrev pub fits_nearest_clock : FormatView → Witnesses → ℕ → ℕ → Bool
fits_nearest_clock f w steps micros = both w.before2 w.before w.after w.after2 where
  both : Option Shown → Option Shown → Option Shown → Option Shown → Bool
  both a2 a None b2 = fits_clock_if_both f steps micros a2 a
  both a2 None (Some b) b2 = fits_clock_if_both f steps micros (Some b) b2
  both a2 (Some a) (Some b) b2 = fits_clock f steps micros a b

-- by one of both
abbrev pub fits_steps : FormatView → Witnesses → ℕ → ℕ → Bool
fits_steps f w steps micros = fits_nominal f steps micros || fits_nearest_clock f w steps micros

-- a time is where the anchors have it that are there before it and after it
abbrev pub is_on_line : FormatView → Witnesses → Option Anchor → ℕ → Option Anchor → Bool
is_on_line f w None t None = false
is_on_line f w (Some a) t None = fits_steps f w a.steps (t - a.rise)
is_on_line f w None t (Some b) = fits_steps f w b.steps (b.rise - t)
is_on_line f w (Some a) t (Some b) = is_on_line_between f w a t b
