-- THE PRINTED TIME OF EACH PULSE IS THE TRUE ONE, if what happened to the recording is one of the
-- stories. This project's own.
use Rattle.std.specs.Prelude.{◌≡◌, ℕ, ◌+◌, List, length, slice_get, Some, ◌/◌, ◌<◌, ◌≤◌}
use Rattle.irig_codes.specs.{Format.FormatView, declared.fields.Fields.Fields}
use Rattle.irig_recording.specs.declared.pulse.Pulse.{Pulse}
use Rattle.irig_law.specs.{Fits.Fits, Points.IsPoint, Printed.printed, Printed.true_time}
use Rattle.irig_law.specs.{Printed.CountsOn, Printed.IsShown, Stories.Eventful, Stories.Quiet}
use Rattle.irig_law.specs.{Stories.SentAfter, Stories.SentBefore, declared.frame.Frame.Frame}
use Rattle.irig_law.specs.{declared.point.Point.Point, Ends.IsAfterLast, Ends.IsBeforeFirst}
use Rattle.irig_law.specs.{Ends.IsSureAfter, Ends.IsSureBefore, Clocks.end_slack, Law.IsOnSide}
use Rattle.irig_law.specs.Law.{IsQuiet}

-- between two believed frames, without an event, and with one
abbrev pub QuietTimesAreTrue : Type 0
QuietTimesAreTrue = (f : FormatView) (century : ℕ) (ps : List Pulse) (a b : Frame)
    (moment name : ℕ → ℕ) (sent : ℕ → Fields) → Quiet f ps a b moment name sent
    → (k : ℕ) (x : Point) → a.marker ≤ k → k < b.marker + 100 → IsQuiet f century ps a b k x
    → printed f x ≡ true_time f sent (name k)

abbrev pub EventfulTimesAreTrue : Type 0
EventfulTimesAreTrue = (f : FormatView) (century : ℕ) (ps : List Pulse) (a b : Frame)
    (moment moment_after name : ℕ → ℕ) (sent : ℕ → Fields)
    → Eventful f ps a b moment moment_after name sent
    → (k : ℕ) (x : Point) → a.marker ≤ k → k < b.marker + 100 → IsOnSide f century ps a b k x
    → printed f x ≡ true_time f sent (name k)

-- What happened after the last believed frame: it shows the time at its marker, and if the end is
-- sure, no event was, as far as pulses are counted. The same before the first one.
module _ (f : FormatView) (ps : List Pulse) (p : Frame) (moment name : ℕ → ℕ)
    (sent : ℕ → Fields) where
  pub record QuietAfter : Type 0 where
    pub frame : ℕ
    pub shown : IsShown sent name p frame
    pub whole : IsSureAfter f ps p → (e : ℕ) → e < 100 → name (p.marker + e) ≡ name p.marker + e
    pub sent_on : IsSureAfter f ps p → SentAfter f ps (end_slack ps p) p 199 moment name
    pub counts : IsSureAfter f ps p → (k : ℕ) → p.marker ≤ k → k < p.marker + 200
        → CountsOn f sent frame (name k / 100)

  pub record QuietBefore : Type 0 where
    pub frame : ℕ
    pub shown : IsShown sent name p frame
    pub whole : IsSureBefore f ps p → (e : ℕ) → e < 100 → name (p.marker + e) ≡ name p.marker + e
    pub sent_back : IsSureBefore f ps p → SentBefore f ps (end_slack ps p) p 100 moment name
    pub counts : IsSureBefore f ps p → (k : ℕ) → p.marker ≤ k + 100 → k ≤ p.marker
        → CountsOn f sent (name k / 100) frame

abbrev pub EndTimesAreTrue : Type 0
EndTimesAreTrue = (f : FormatView) (ps : List Pulse) (a : Frame) (moment name : ℕ → ℕ)
    (sent : ℕ → Fields) → QuietAfter f ps a moment name sent
    → (k : ℕ) (x : Point) → IsAfterLast f ps a k x → printed f x ≡ true_time f sent (name k)

abbrev pub BeginTimesAreTrue : Type 0
BeginTimesAreTrue = (f : FormatView) (ps : List Pulse) (b : Frame) (moment name : ℕ → ℕ)
    (sent : ℕ → Fields) → QuietBefore f ps b moment name sent
    → (k : ℕ) (x : Point) → IsBeforeFirst f ps b k x → printed f x ≡ true_time f sent (name k)

-- `sent` is the fields of each frame that was sent, and `name` the number of the element that was
-- sent when each pulse of the recording rose. Between each two frames next to each other was no
-- event if they fit, and one if they do not; at an end was none that no pulse denies.
pub record Story (f : FormatView) (century : ℕ) (ps : List Pulse) (frames : List Frame)
    (name : ℕ → ℕ) (sent : ℕ → Fields) : Type 0 where
  pub begin : (b : Frame) → slice_get frames 0 ≡ Some b
      → (moment : ℕ → ℕ) × QuietBefore f ps b moment name sent
  pub quiet : (i n : ℕ) (a b : Frame) → slice_get frames i ≡ Some a
      → slice_get frames (i + 1) ≡ Some b → Fits f century ps a b n
      → (moment : ℕ → ℕ) × Quiet f ps a b moment name sent
  pub eventful : (i : ℕ) (a b : Frame) → slice_get frames i ≡ Some a
      → slice_get frames (i + 1) ≡ Some b → ((n : ℕ) → Fits f century ps a b n → ⊥)
      → (moment moment_after : ℕ → ℕ) × Eventful f ps a b moment moment_after name sent
  pub end : (i : ℕ) (a : Frame) → i + 1 ≡ length frames → slice_get frames i ≡ Some a
      → (moment : ℕ → ℕ) × QuietAfter f ps a moment name sent

abbrev pub TimesAreTrue : Type 0
TimesAreTrue = (f : FormatView) (century : ℕ) (ps : List Pulse) (frames : List Frame)
    (name : ℕ → ℕ) (sent : ℕ → Fields) → Story f century ps frames name sent
    → (k : ℕ) (x : Point) → IsPoint f century ps frames k x
    → printed f x ≡ true_time f sent (name k)
