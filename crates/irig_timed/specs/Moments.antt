-- THE TIME OF A MOMENT by the law of time, and how far it can be off. This project's own.
use Rattle.std.specs.Prelude.{◌≡◌, ℕ, ◌-◌, ◌*◌, ◌/◌, Bool, true, List, Some, slice_get}
use Rattle.irig_codes.specs.Format.{FormatView}
use Rattle.irig_recording.specs.declared.pulse.Pulse.{Pulse}
use Rattle.irig_track.specs.Splices.{risen_by}
use Rattle.irig_times.specs.declared.time.Time.{Time}
use Rattle.irig_law.specs.{Believed.believed, Points.IsPoint, declared.frame.Frame.Frame}
use Rattle.irig_law.specs.declared.point.Point.{Point}
use Rattle.irig_timed.specs.{Around.AreAround, Line.elements_after, Line.is_in_hour, Line.time_on}
use Rattle.irig_timed.specs.{Gaps.gap_between, declared.gap.Gap.TheVariants.Line}
use Rattle.irig_timed.specs.{declared.moment.Moment.Moment, declared.run.Place.Place}

-- a pulse has a time: it is this element by the law, and not past the end of its hour
pub record IsElement (f : FormatView) (century : ℕ) (ps : List Pulse) (frames : List Frame)
    (k : ℕ) (x : Point) : Type 0 where
  pub point : IsPoint f century ps frames k x
  pub hour : is_in_hour f x ≡ true

-- n / d microseconds after the start of a track with these believed frames it is this time: on the
-- line from the last pulse that has risen by then and has a time to the next one that has one. The
-- bound is in trillionths of an interval; 0 between pulses that are one element apart.
pub record IsMomentBy (f : FormatView) (century : ℕ) (ps : List Pulse) (frames : List Frame)
    (d n : ℕ) (time : Time) (bound : ℕ) : Type 0 where
  pub from : Place
  pub to : Place
  pub point : Pulse
  pub next : Pulse
  pub around : AreAround (IsElement f century ps frames) (risen_by (n / d) ps) (Some from)
      (Some to)
  pub stands : slice_get ps from.number ≡ Some point
  pub stands_next : slice_get ps to.number ≡ Some next
  pub line : gap_between f century ps frames from to ≡ Line bound
  pub is : time ≡ time_on f from.point to.point (elements_after f century from.point to.point)
      (n - d * point.rise) (d * (next.rise - point.rise))

-- it has this time and this bound, and is between these pulses
abbrev pub IsMomentOn : FormatView → ℕ → List Pulse → List Frame → ℕ → ℕ → Moment → Type 0
IsMomentOn f century ps frames d n x =
    (m : IsMomentBy f century ps frames d n x.time x.bound)
    × (m.from.number ≡ x.from) × (m.to.number ≡ x.to)

-- how many elements the two pulses of a moment are apart, how many microseconds, and how many of
-- these are over, in microseconds / d
module _ {f : FormatView} {century : ℕ} {ps : List Pulse} {frames : List Frame} {d n : ℕ}
    {time : Time} {bound : ℕ} (m : IsMomentBy f century ps frames d n time bound) where
  abbrev pub elements_of : ℕ
  elements_of = elements_after f century m.from.point m.to.point

  abbrev pub long_of : ℕ
  long_of = m.next.rise - m.point.rise

  abbrev pub part_of : ℕ
  part_of = n - d * m.point.rise

module _ (f : FormatView) (alone : Bool) (century : ℕ) (ps : List Pulse) where
  -- the frames of a track that are believed
  abbrev pub frames_by : List Frame
  frames_by = believed f alone century ps

  abbrev pub IsMoment : ℕ → ℕ → Time → ℕ → Type 0
  IsMoment d n time bound = IsMomentBy f century ps frames_by d n time bound

  abbrev pub IsMomentOf : ℕ → ℕ → Moment → Type 0
  IsMomentOf d n x = IsMomentOn f century ps frames_by d n x

  -- n / d microseconds after the start it is this time
  abbrev pub IsTimed : ℕ → ℕ → Time → Type 0
  IsTimed d n time = (bound : ℕ) × IsMoment d n time bound
