-- What happened to a recording between two believed frames, and at its ends: the premises under
-- which times are true. This project's own.
use Rattle.std.specs.Prelude.{◌≡◌, ℕ, ◌+◌, ◌-◌, ◌*◌, ◌/◌, ◌<◌, ◌≤◌, List}
use Rattle.irig_codes.specs.{Format.FormatView, declared.fields.Fields.Fields}
use Rattle.irig_recording.specs.declared.pulse.Pulse.{Pulse}
use Rattle.irig_times.specs.Times.{time_in}
use Rattle.irig_law.specs.{Clocks.clock_of, Clocks.slack_of, Denials.seen_after}
use Rattle.irig_law.specs.{Denials.seen_before, Printed.CountsOn, Printed.IsShown, Rows.rise_in}
use Rattle.irig_law.specs.{Rows.row_after, Rows.row_before, Rows.runs_in, Law.Denies}
use Rattle.irig_law.specs.{Stretches.first_denials, Stretches.second_denials, Truth.Sent}
use Rattle.irig_law.specs.{declared.frame.Frame.Frame, declared.names.Seen.TheVariants.Named}

module _ (f : FormatView) (ps : List Pulse) (slack : ℕ) (p : Frame) (last : ℕ)
    (moment name : ℕ → ℕ) where
  -- Of the pulses after a frame's marker those with a name were sent. `name` is the number of the
  -- element that was sent when each pulse of the recording rose, `moment` when each element rises.
  abbrev pub SentAfter : Type 0
  SentAfter =
      Sent (clock_of f ps p slack) (rise_in ps (row_after p)) (runs_in f ps (row_after p)) moment
      (λ i. name (p.marker + i)) last

  -- the same of those before it: elements and moments are counted back from its marker
  abbrev pub SentBefore : Type 0
  SentBefore =
      Sent (clock_of f ps p slack) (rise_in ps (row_before p)) (runs_in f ps (row_before p))
      (λ e. moment (name p.marker) - moment (name p.marker - e))
      (λ i. name p.marker - name (p.marker - i)) last

-- No event was between two frames: both are undamaged, the sender counted on, each pulse with a
-- name was sent, and the recorder's clock ran as the two frames show.
pub record Quiet (f : FormatView) (ps : List Pulse) (a b : Frame) (moment name : ℕ → ℕ)
    (sent : ℕ → Fields) : Type 0 where
  pub frame : ℕ
  pub shown : IsShown sent name a frame
  pub whole : (e : ℕ) → e < 100 → name (a.marker + e) ≡ name a.marker + e
  pub frame_after : ℕ
  pub shown_after : IsShown sent name b frame_after
  pub whole_after : (e : ℕ) → e < 100 → name (b.marker + e) ≡ name b.marker + e
  pub sent_on : SentAfter f ps (slack_of ps a b) a (b.marker - a.marker) moment name
  pub sent_back : SentBefore f ps (slack_of ps a b) b (b.marker - a.marker) moment name
  pub counts : CountsOn f sent frame frame_after
  pub below : (k e : ℕ) → a.marker ≤ k → k ≤ b.marker
      → seen_after f ps a (slack_of ps a b) k ≡ Named e → name k / 100 ≤ frame_after
  pub above : (k e : ℕ) → a.marker ≤ k → k ≤ b.marker
      → seen_before f ps b (slack_of ps a b) k ≡ Named e → frame ≤ name k / 100

-- One event was, in or after some pulse: the recorder lost or repeated something, or the sender's
-- clock was set. Up to that pulse all is as the first frame says, and from the next on as the
-- second one says. Of the pulses on each side one at most is damaged so that it denies what was
-- sent.
pub record Eventful (f : FormatView) (ps : List Pulse) (a b : Frame)
    (moment moment_after name : ℕ → ℕ) (sent : ℕ → Fields) : Type 0 where
  pub event : ℕ
  pub frame : ℕ
  pub shown : IsShown sent name a frame
  pub frame_after : ℕ
  pub time_after : b.time ≡ time_in (sent frame_after) 0
  pub whole_after : (k : ℕ) → a.marker + event < k → b.marker ≤ k → k < b.marker + 100
      → name k ≡ 100 * frame_after + (k - b.marker)
  pub sent_on : SentAfter f ps (slack_of ps a b) a event moment name
  pub sent_back : SentBefore f ps (slack_of ps a b) b (b.marker - (a.marker + event + 1))
      moment_after name
  pub counts : (k : ℕ) → a.marker ≤ k → k ≤ a.marker + event → CountsOn f sent frame (name k / 100)
  pub counts_after : (k : ℕ) → a.marker + event < k → CountsOn f sent (name k / 100) frame_after
  pub one_before : (i j : ℕ) → i < j → j ≤ event → Denies (first_denials f ps a b) i
      → Denies (first_denials f ps a b) j → ⊥
  pub one_after : (i j : ℕ) → event < i → i < j → Denies (second_denials f ps a b) i
      → Denies (second_denials f ps a b) j → ⊥
