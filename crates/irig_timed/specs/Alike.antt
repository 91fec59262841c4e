-- When the recorder's clock ran in a hole as in the believed frames around it. This project's own.
use Rattle.std.specs.Prelude.{◌≡◌, ◌⊎◌, ℕ, ◌+◌, ◌-◌, ◌*◌, ◌/◌, ◌<◌, ◌≤◌, List}
use Rattle.irig_recording.specs.declared.pulse.Pulse.{Pulse}
use Rattle.irig_times.specs.Steps.{micros_between}
use Rattle.irig_law.specs.{Holes.units_of, declared.frame.Frame.Frame}

-- somewhere in two frames k elements took that many microseconds
pub record HasTaken (ps : List Pulse) (a b : Frame) (k micros : ℕ) : Type 0 where
  pub frame : Frame
  pub one : (frame ≡ a) ⊎ (frame ≡ b)
  pub first : ℕ
  pub from : frame.marker ≤ first
  pub to : first + k < frame.marker + 100
  pub is : micros ≡ micros_between ps first (first + k)

-- The code that passed in x microseconds / d of a hole, in units / d, is what it was there: some
-- elements, and then the next one evenly.
pub record RunsAs (ps : List Pulse) (a b : Frame) (n d x passed : ℕ) : Type 0 where
  pub whole : ℕ
  pub few : whole < n
  pub least : ℕ
  pub took : HasTaken ps a b whole least
  pub most : ℕ
  pub took_more : HasTaken ps a b (whole + 1) most
  pub longer : least < most
  pub begins : d * least ≤ x
  pub ends : x ≤ d * most
  pub even : passed ≡ d * units_of whole + (x - d * least) * units_of 1 / (most - least)

-- What happened in a hole of n elements and `long` microseconds: its clock ran as in the frames, up
-- to a moment from its begin, and after it up to its end. `passed` is the code up to each moment.
pub record HoleAs (ps : List Pulse) (a b : Frame) (n d long : ℕ) (passed : ℕ → ℕ) : Type 0 where
  pub event : ℕ
  pub before : (x : ℕ) → x < event → RunsAs ps a b n d x (passed x)
  pub within : (x : ℕ) → event ≤ x → x ≤ d * long → passed x ≤ d * units_of n
  pub after : (x : ℕ) → event ≤ x → x ≤ d * long
      → RunsAs ps a b n d (d * long - x) (d * units_of n - passed x)
