-- EACH TIME IS THAT OF THE CODE, as near as it can be off where it is printed, if what happened to
-- the recording is one of the stories. This project's own.
use Rattle.std.specs.Prelude.{◌≡◌, ◌⊎◌, ℕ, ◌+◌, ◌-◌, ◌*◌, ◌/◌, ◌<◌, ◌≤◌, List, Some}
use Rattle.irig_codes.specs.{Format.FormatView, declared.fields.Fields.Fields}
use Rattle.irig_recording.specs.declared.pulse.Pulse.{Pulse}
use Rattle.irig_times.specs.declared.time.Time.{Time}
use Rattle.irig_track.specs.Track.{IsLongTrack}
use Rattle.irig_law.specs.{Holes.rate_of, Holes.units_of, Holes.Hole, Clocks.clock_of}
use Rattle.irig_law.specs.{Clocks.slack_of, Names.Within, Hours.hour_micros, Printed.true_time}
use Rattle.irig_law.specs.{Theorem.Story, declared.frame.Frame.Frame}
use Rattle.irig_timed.specs.{Alike.HoleAs, Bends.bends_over, Bends.off_over, Bends.units_in}
use Rattle.irig_timed.specs.Moments.{IsMomentBy, elements_of, long_of, part_of}
use Rattle.irig_timed.specs.Stretches.{stretch_at}

-- A time is in the hour of another one, and some code after it, to some microseconds. What passed
-- is in units / d.
pub record IsAfter (f : FormatView) (d off : ℕ) (begin : Time) (passed : ℕ) (time : Time)
    : Type 0 where
  pub year : time.year ≡ begin.year
  pub day : time.days ≡ begin.days
  pub hour : time.hours ≡ begin.hours
  pub early : d * units_in f (hour_micros time) ≤ d * units_in f (hour_micros begin + off) + passed
  pub late : d * units_in f (hour_micros begin) + passed ≤ d * units_in f (hour_micros time + off)

-- it is so long before another one, if the hour had begun
pub record IsBefore (f : FormatView) (d off : ℕ) (end : Time) (left : ℕ) (time : Time)
    : Type 0 where
  pub year : time.year ≡ end.year
  pub day : time.days ≡ end.days
  pub hour : time.hours ≡ end.hours
  pub early : left ≤ d * units_in f (hour_micros end)
      → d * units_in f (hour_micros time) + left ≤ d * units_in f (hour_micros end + off)
  pub late : d * units_in f (hour_micros end) ≤ d * units_in f (hour_micros time + off) + left

-- `passed` is the code that passed up to each microsecond / d after the first of the two pulses of
-- a moment. In a hole of up to 99 elements the clock ran as in the frames around, and in a longer
-- one at their rate, but for one event at most. Between two pulses one element apart it ran evenly,
-- to what time bends there.
pub record Passes (f : FormatView) (century : ℕ) (ps : List Pulse) (frames : List Frame)
    (d n : ℕ) (time : Time) (bound : ℕ) (m : IsMomentBy f century ps frames d n time bound)
    (passed : ℕ → ℕ) : Type 0 where
  pub short : (a b : Frame) → stretch_at frames m.from.number ≡ Some (a, b) → 0 < bound
      → elements_of m < 100 → HoleAs ps a b (elements_of m) d (long_of m) passed
  pub long : (a b : Frame) → stretch_at frames m.from.number ≡ Some (a, b) → 0 < bound
      → 100 ≤ elements_of m → Hole (rate_of (clock_of f ps a (slack_of ps a b))) (d * long_of m)
      (d * units_of (elements_of m)) passed
  pub even : bound ≡ 0
      → Within (d * units_in f (bends_over f ps frames m.from.number m.to.number))
      (passed (part_of m)) (part_of m * units_of (elements_of m) / long_of m)

-- the time is as long after the first pulse as the code was, or as long before the second one; both
-- have their true times
abbrev pub IsNear : (f : FormatView) (century : ℕ) (ps : List Pulse) (frames : List Frame)
    (d n : ℕ) (time : Time) (bound : ℕ) → IsMomentBy f century ps frames d n time bound
    → (ℕ → ℕ) → (ℕ → Fields) → (ℕ → ℕ) → Type 0
IsNear f century ps frames d n time bound m name sent passed =
    IsAfter f d (off_over f ps frames m.from.number m.to.number bound)
    (true_time f sent (name m.from.number)) (passed (part_of m)) time
    ⊎ IsBefore f d (off_over f ps frames m.from.number m.to.number bound)
    (true_time f sent (name m.to.number))
    (d * units_of (elements_of m) - passed (part_of m)) time

abbrev pub TimesAreNear : Type 0
TimesAreNear = (f : FormatView) (century micros : ℕ) (ps : List Pulse) (frames : List Frame)
    (name : ℕ → ℕ) (sent : ℕ → Fields) → IsLongTrack micros ps
    → Story f century ps frames name sent → (d n : ℕ) → 0 < d → (time : Time) (bound : ℕ)
    (m : IsMomentBy f century ps frames d n time bound) (passed : ℕ → ℕ)
    → Passes f century ps frames d n time bound m passed
    → IsNear f century ps frames d n time bound m name sent passed
