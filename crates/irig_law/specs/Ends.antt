-- THE LAW OF TIME before the first believed frame and after the last one: a hundred pulses in step
-- with it, if no pulse up to the end of the recording denies, and no hour ends. This project's own.
use Rattle.std.specs.Prelude.{◌≡◌, ◌⊎◌, ℕ, ◌+◌, ◌-◌, ◌≤◌, ◌<◌, true, false, List, Some, is_some}
use Rattle.std.specs.Prelude.{length, slice_get}
use Rattle.irig_codes.specs.Format.{FormatView}
use Rattle.irig_recording.specs.declared.pulse.Pulse.{Pulse}
use Rattle.irig_times.specs.TimedElements.{time_elements}
use Rattle.irig_law.specs.{Clocks.clock_of, Clocks.end_slack, Denials.denies_named}
use Rattle.irig_law.specs.{Denials.seen_after, Denials.seen_before, Elements.element_after}
use Rattle.irig_law.specs.{Elements.element_before, Elements.element_in, Names.seen_loosely}
use Rattle.irig_law.specs.Rows.{half_in, place_in, rise_in, row_after, row_before, runs_in}
use Rattle.irig_law.specs.{declared.point.Point.Point, declared.frame.Frame.Frame}
use Rattle.irig_law.specs.{declared.names.Seen.Seen, declared.names.Seen.TheVariants.Named}
use Rattle.irig_law.specs.declared.row.Row.{Row}

module _ (f : FormatView) (ps : List Pulse) (p : Frame) where
  -- What is seen of a pulse at an end: two in step on one side of it are enough to deny.
  abbrev pub seen_at_end : Row → ℕ → Seen
  seen_at_end r k =
      seen_loosely (clock_of f ps p (end_slack ps p)) (rise_in ps r) (runs_in f ps r)
      (half_in f ps r) k

  -- An end is sure up to some pulse: the frame of the code next to the believed one is in the same
  -- hour, and no pulse denies its name. One on no grid shows nothing: here nobody knows how much
  -- the clock strays.
  pub record IsSure (r : Row) (many : ℕ) : Type 0 where
    pub hour : is_some (element_in f p r.is_back 100) ≡ true
    pub none : (k : ℕ) → 0 < k → k < many
        → denies_named f p r.is_back (slice_get ps (place_in r k)) (seen_at_end r k) ≡ false

  -- The last pulse of all can be cut by the end of the recording, so it is not asked.
  abbrev pub IsSureAfter : Type 0
  IsSureAfter = IsSure (row_after p) (length ps - (p.marker + 1))

  abbrev pub IsSureBefore : Type 0
  IsSureBefore = IsSure (row_before p) (p.marker + 1)

  -- each pulse from a frame on to another one, or back from it to another one, is the next element
  abbrev pub IsInStepAfter : ℕ → Type 0
  IsInStepAfter k = (j : ℕ) → p.marker ≤ j → j ≤ k
      → seen_after f ps p (end_slack ps p) j ≡ Named (j - p.marker)

  abbrev pub IsInStepBefore : ℕ → Type 0
  IsInStepBefore k = (j : ℕ) → k ≤ j → j ≤ p.marker
      → seen_before f ps p (end_slack ps p) j ≡ Named (p.marker - j)

  -- A pulse after the last frame's marker is this element: one of the frame, or of the hundred
  -- after it. If the end is not sure, only the marker is.
  pub record IsAfterLast (k : ℕ) (x : Point) : Type 0 where
    pub from : p.marker ≤ k
    pub to : k < length ps
    pub few : k < p.marker + 200
    pub in_step : (k < p.marker + 100) ⊎ IsInStepAfter k
    pub sure : p.marker < k → IsSureAfter
    pub is : element_after f p (k - p.marker) ≡ Some x

  -- The same of a pulse before the first frame's marker, or of the elements that carry its time. If
  -- the end is not sure, none is known: the frame keeps what comes after those.
  pub record IsBeforeFirst (k : ℕ) (x : Point) : Type 0 where
    pub to : k < p.marker + time_elements f.kind
    pub few : p.marker ≤ k + 100
    pub sure : IsSureBefore
    pub is : ((p.marker ≤ k) × (element_after f p (k - p.marker) ≡ Some x))
        ⊎ ((k < p.marker) × IsInStepBefore k × (element_before f p (p.marker - k) ≡ Some x))
