-- Which pulses deny what they should be by a frame. This project's own.
use Rattle.std.specs.Prelude.{ℕ, ◌-◌, ◌&&◌, nat_le, Bool, true, false, List, Option, Some, None}
use Rattle.std.specs.Prelude.{slice_get, if◌then◌else◌}
use Rattle.irig_codes.specs.{Encoding.encoded, Fields.fits_in, Format.FormatView}
use Rattle.irig_recording.specs.declared.pulse.Pulse.{Pulse}
use Rattle.irig_times.specs.{TimedElements.contradicts, Times.fields_at}
use Rattle.irig_law.specs.{Clocks.clock_of, Elements.element_after, Elements.element_in, Names.seen}
use Rattle.irig_law.specs.Rows.{rise_in, runs_in, row_after, row_before}
use Rattle.irig_law.specs.{declared.point.Point.Point, declared.frame.Frame.Frame}
use Rattle.irig_law.specs.{declared.names.Seen.Seen, declared.names.Seen.TheVariants.Named}
use Rattle.irig_law.specs.declared.names.Seen.TheVariants.{Astray, Unknown}

-- a pulse is of another class than an element: a position identifier or none, or of those that
-- carry a part of the time
abbrev pub is_unlike : FormatView → Option Pulse → Point → Bool
is_unlike f p x =
    fits_in f (fields_at f x.frame)
    && contradicts f x.element p (slice_get (encoded f (fields_at f x.frame)) x.element)

abbrev pub is_denied : FormatView → Option Pulse → Option Point → Bool
is_denied f p None = false
is_denied f p (Some x) = is_unlike f p x

-- a pulse denies what is seen of it: it is on no grid of the frame, or of another class
abbrev pub denies_seen : FormatView → Frame → Bool → Option Pulse → Seen → Bool
denies_seen f p is_back pulse (Named e) = is_denied f pulse (element_in f p is_back e)
denies_seen f p is_back pulse Astray = true
denies_seen f p is_back pulse Unknown = false

-- the same of its name alone: one on no grid shows nothing
abbrev pub denies_named : FormatView → Frame → Bool → Option Pulse → Seen → Bool
denies_named f p is_back pulse (Named e) = is_denied f pulse (element_in f p is_back e)
denies_named f p is_back pulse other = false

module _ (f : FormatView) (ps : List Pulse) (p : Frame) (slack k : ℕ) where
  -- what is seen of a pulse by the frame before it, or by the frame after it
  abbrev pub seen_after : Seen
  seen_after =
      seen (clock_of f ps p slack) (rise_in ps (row_after p)) (runs_in f ps (row_after p))
      (k - p.marker)

  abbrev pub seen_before : Seen
  seen_before =
      seen (clock_of f ps p slack) (rise_in ps (row_before p)) (runs_in f ps (row_before p))
      (p.marker - k)

  -- a pulse denies that; from its marker on, a frame has its elements
  abbrev pub denies_first : Bool
  denies_first = denies_seen f p false (slice_get ps k) seen_after

  abbrev pub denies_second : Bool
  denies_second =
      if nat_le k p.marker then denies_seen f p true (slice_get ps k) seen_before
      else is_denied f (slice_get ps k) (element_after f p (k - p.marker))
