-- THE TIME OF EACH MOMENT IS TRUE, to its bound, if what happened to the recording is one of the
-- stories. This project's own.
use Rattle.std.specs.Prelude.{◌≡◌, ℕ, ◌+◌, ◌*◌, ◌<◌, ◌≤◌, List, Some}
use Rattle.irig_codes.specs.{Format.FormatView, declared.fields.Fields.Fields}
use Rattle.irig_recording.specs.declared.pulse.Pulse.{Pulse}
use Rattle.irig_times.specs.declared.time.Time.{Time}
use Rattle.irig_track.specs.Track.{IsLongTrack}
use Rattle.irig_law.specs.{Holes.rate_of, Holes.units_of, Holes.Hole, Clocks.clock_of}
use Rattle.irig_law.specs.{Clocks.slack_of, declared.frame.Frame.Frame, Printed.printed}
use Rattle.irig_law.specs.{Printed.true_time, Theorem.Story}
use Rattle.irig_timed.specs.{Alike.HoleAs, Line.over_in, Bends.bends_over, Bends.units_in}
use Rattle.irig_timed.specs.Moments.{IsMomentBy, elements_of, long_of, part_of}
use Rattle.irig_timed.specs.Stretches.{stretch_at}

-- the code that passed, in units / d, is `over` microseconds, to the bound and to the microsecond
-- that is printed
abbrev pub IsOver : FormatView → ℕ → ℕ → ℕ → ℕ → Type 0
IsOver f bound d passed over =
    (d * units_in f over ≤ passed + d * bound) × (passed ≤ d * units_in f (over + 1) + d * bound)

-- The two pulses around a moment have their true times; `name` and `sent` are those of the story.
-- On a line with a bound the time is counted from them by what passed. Over up to 99 elements that
-- is to the bound and to what time bends, if the clock ran as in the frames around; over more it is
-- to the bound, if it ran at their rate. In both it did so but for one event at most.
pub record IsTrue (f : FormatView) (century : ℕ) (ps : List Pulse) (frames : List Frame)
    (d n : ℕ) (time : Time) (bound : ℕ) (m : IsMomentBy f century ps frames d n time bound)
    (name : ℕ → ℕ) (sent : ℕ → Fields) : Type 0 where
  pub begins : printed f m.from.point ≡ true_time f sent (name m.from.number)
  pub ends : printed f m.to.point ≡ true_time f sent (name m.to.number)
  pub passes : (a b : Frame) → stretch_at frames m.from.number ≡ Some (a, b) → 0 < bound
      → 100 ≤ elements_of m → (passed : ℕ → ℕ)
      → Hole (rate_of (clock_of f ps a (slack_of ps a b))) (d * long_of m)
      (d * units_of (elements_of m)) passed
      → IsOver f bound d (passed (part_of m))
      (over_in f (elements_of m) (part_of m) (d * long_of m))
  pub alike : (a b : Frame) → stretch_at frames m.from.number ≡ Some (a, b) → 0 < bound
      → elements_of m < 100 → (passed : ℕ → ℕ)
      → HoleAs ps a b (elements_of m) d (long_of m) passed
      → IsOver f (bound + units_in f (bends_over f ps frames m.from.number m.to.number)) d
      (passed (part_of m)) (over_in f (elements_of m) (part_of m) (d * long_of m))

abbrev pub MomentsAreTrue : Type 0
MomentsAreTrue = (f : FormatView) (century micros : ℕ) (ps : List Pulse) (frames : List Frame)
    (name : ℕ → ℕ) (sent : ℕ → Fields) → IsLongTrack micros ps
    → Story f century ps frames name sent → (d n : ℕ) → 0 < d → (time : Time) (bound : ℕ)
    (m : IsMomentBy f century ps frames d n time bound)
    → IsTrue f century ps frames d n time bound m name sent
