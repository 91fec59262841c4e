-- The elements before and after the marker of a frame that has a time, and those of the frame of a
-- time as they are kept. This project's own.
use Rattle.std.specs.Prelude.{ℕ, ◌+◌, ◌-◌, ◌/◌, ◌%◌, Option, option_map, Bool, if◌then◌else◌, ◌≡◌}
use Rattle.std.specs.Prelude.{true, Some, None}
use Rattle.irig_codes.specs.{Format.FormatView, Format.frame_period_of, Encoding.encoded}
use Rattle.irig_codes.specs.Fields.{fits_in}
use Rattle.irig_times.specs.{declared.time.Time.Time, Times.fields_at}
use Rattle.irig_law.specs.{Hours.earlier_in_hour, Hours.later_in_hour, declared.point.Point.Point}
use Rattle.irig_law.specs.{declared.frame.Frame.Frame, declared.wanted.Wanted.Wanted}

-- an element of the frame of a time
abbrev pub element_at : ℕ → Time → Point
element_at e t = record { frame = t; element = e }

-- the element e elements after a frame's marker, or before it, in the same hour
abbrev pub element_after : FormatView → Frame → ℕ → Option Point
element_after f a e =
    option_map (element_at (e % 100)) (later_in_hour (frame_period_of f.kind) (e / 100) a.time)

abbrev pub element_before : FormatView → Frame → ℕ → Option Point
element_before f b e =
    option_map (element_at ((100 - e % 100) % 100))
    (earlier_in_hour (frame_period_of f.kind) ((e + 99) / 100) b.time)

-- the element of a row with this name
abbrev pub element_in : FormatView → Frame → Bool → ℕ → Option Point
element_in f p is_back e = if is_back then element_before f p e else element_after f p e

-- these are the elements of the frame of a time, if its fields fit
pub record IsWanted (f : FormatView) (w : Wanted) : Type 0 where
  pub fits : w.fits ≡ fits_in f (fields_at f w.time)
  pub elements : w.fits ≡ true → w.elements ≡ encoded f (fields_at f w.time)

-- what is kept of the last time that was asked, if one was
abbrev pub IsKept : FormatView → Option Wanted → Type 0
IsKept f None = Unit {0}
IsKept f (Some w) = IsWanted f w
