-- What is kept of a recording. This project's own.
use Rattle.std.specs.Prelude.{ℕ, ◌≤◌, false, List}
use Rattle.irig_codes.specs.Format.{FormatView}
use Rattle.irig_recording.specs.declared.pulse.Pulse.{Pulse}
use Rattle.irig_timed.specs.{Knowns.IsKnown, Moments.frames_by}
use Rattle.irig_agreement.specs.{Doubts.AreDoubts, declared.recorded.Kept.Kept}

-- what a contract sees: its pulses, the format, and the century of years of two digits
pub record RecordedView : Type 0 where
  pub format : FormatView
  pub century : ℕ
  pub pulses : List Pulse

-- what is known of its times is right, and so is which pulses are doubted
pub record IsKept (ps : List Pulse) (k : Kept) : Type 0 where
  pub low : k.century ≤ 99
  pub known : IsKnown k.format false k.century ps k.known
  pub doubts : AreDoubts k.format k.century ps (frames_by k.format false k.century ps)
      k.doubts.items
