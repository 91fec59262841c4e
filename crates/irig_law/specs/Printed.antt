-- What was sent, and the time of it: the truth that a printed time is compared with. Nothing here
-- stands on the law. This project's own.
use Rattle.std.specs.Prelude.{◌≡◌, ℕ, ◌+◌, ◌-◌, ◌*◌, ◌/◌, ◌%◌, ◌<◌, ◌≤◌}
use Rattle.irig_codes.specs.Format.{FormatView, frame_period_of, interval_of}
use Rattle.irig_codes.specs.declared.fields.Fields.{Fields}
use Rattle.irig_times.specs.{Times.plus, Times.time_in, declared.time.Time.Time}
use Rattle.irig_law.specs.Hours.{at_hour, at_minute, hour_micros}
use Rattle.irig_law.specs.{declared.point.Point.Point, declared.frame.Frame.Frame}

-- `sent` is the fields of each frame that was sent. Elements are numbered through, 100 a frame. The
-- true time of one is that of the fields of its frame, and an interval more for each element before
-- it.
abbrev pub true_time : FormatView → (ℕ → Fields) → ℕ → Time
true_time f sent n = time_in (sent (n / 100)) (n % 100 * interval_of f.kind)

-- the time that is printed where a pulse rises that is this element
abbrev pub printed : FormatView → Point → Time
printed f x = plus x.frame (x.element * interval_of f.kind)

-- one time is q periods after another, if it is in the same hour, by minutes of 60 seconds, or in
-- the same second 60
pub record IsLater (period q : ℕ) (t u : Time) : Type 0 where
  pub on : t.micros < 60000000 → hour_micros t + q * period < 3600000000
      → at_hour t (hour_micros t + q * period) ≡ u
  pub on_in_60 : 60000000 ≤ t.micros → t.micros + q * period < 61000000
      → at_minute t (t.micros + q * period) ≡ u
  pub back : u.micros < 60000000 + q * period → q * period ≤ hour_micros u
      → at_hour u (hour_micros u - q * period) ≡ t
  pub back_in_60 : 60000000 + q * period ≤ u.micros → at_minute u (u.micros - q * period) ≡ t

-- The sender's clock counts on from one frame to another: of each two of these the later one shows
-- the time as many periods later. Nothing has to be known of the end of an hour.
abbrev pub CountsOn : FormatView → (ℕ → Fields) → ℕ → ℕ → Type 0
CountsOn f sent from to = (i k : ℕ) → from ≤ i → i ≤ k → k ≤ to
    → IsLater (frame_period_of f.kind) (k - i) (time_in (sent i) 0) (time_in (sent k) 0)

-- A believed frame shows the time of a frame that was sent, and its marker is that one's. `name` is
-- the number of the element that was sent when a pulse rose.
pub record IsShown (sent : ℕ → Fields) (name : ℕ → ℕ) (p : Frame) (frame : ℕ) : Type 0 where
  pub marker : name p.marker ≡ 100 * frame
  pub time : p.time ≡ time_in (sent frame) 0
