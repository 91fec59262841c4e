-- When two frames fit each other, so that no event is between them. This project's own.
use Rattle.std.specs.Prelude.{◌≡◌, ◌⊎◌, ℕ, ◌+◌, ◌-◌, ◌*◌, ◌/◌, ◌%◌, ◌^◌, ◌≤◌, ◌<◌, ◌==◌, ◌&&◌}
use Rattle.std.specs.Prelude.{nat_lt, List, Option, Some, None, if◌then◌else◌}
use Rattle.irig_codes.specs.Format.{FormatView, frame_period_of}
use Rattle.irig_recording.specs.declared.pulse.Pulse.{Pulse}
use Rattle.irig_times.specs.{Steps.micros_between, declared.time.Time.Time}
use Rattle.irig_law.specs.{Calendar.micros_after, Clocks.apart, Clocks.clock_of, Clocks.slack_of}
use Rattle.irig_law.specs.{Clocks.span_of, Denials.seen_after, Denials.seen_before, Names.walk}
use Rattle.irig_law.specs.Rows.{rise_in, row_after, row_before, runs_in}
use Rattle.irig_law.specs.{declared.frame.Frame.Frame, declared.names.Walk.Walk}
use Rattle.irig_law.specs.declared.names.Seen.TheVariants.{Named}

-- how many periods one time is after another by the calendar, if they are whole ones; a recording
-- is shorter than 2^40 microseconds
abbrev pub periods_in : ℕ → ℕ → Option ℕ
periods_in period micros =
    if nat_lt 0 micros && (nat_lt micros (2 ^ 40) && (micros % period == 0))
    then Some (micros / period) else None

abbrev pub periods_apart : ℕ → ℕ → Time → Time → Option ℕ
periods_apart century period a b = periods_in period (micros_after century a b)

module _ (f : FormatView) (ps : List Pulse) (a b : Frame) where
  -- from one marker to the other: the last pulse with a name by the first frame, and back from the
  -- second one the last with a name by that one
  abbrev pub last_after : Walk
  last_after =
      walk (clock_of f ps a (slack_of ps a b)) (rise_in ps (row_after a))
      (runs_in f ps (row_after a)) (b.marker - a.marker)

  abbrev pub last_before : Walk
  last_before =
      walk (clock_of f ps b (slack_of ps a b)) (rise_in ps (row_before b))
      (runs_in f ps (row_before b)) (b.marker - a.marker)

  -- a pulse between them has the same name by both, if they are n periods apart
  pub record Meets (n : ℕ) : Type 0 where
    pub number : ℕ
    pub from : a.marker ≤ number
    pub to : number ≤ b.marker
    pub after : ℕ
    pub before : ℕ
    pub named : seen_after f ps a (slack_of ps a b) number ≡ Named after
    pub named_too : seen_before f ps b (slack_of ps a b) number ≡ Named before
    pub meets : after + before ≡ 100 * n

-- how many elements are between two pulses that have these names, if the frames are n periods apart
abbrev pub between : ℕ → Walk → Walk → ℕ
between n w v = 100 * n - (w.element + v.element)

module _ (ps : List Pulse) (a b : Frame) where
  -- some microseconds are that many elements by the clock of both frames, to half an interval and
  -- to what the clock strays
  abbrev pub IsLong : ℕ → ℕ → Type 0
  IsLong micros many =
      2 * apart (198 * micros) (many * (span_of ps a + span_of ps b))
      ≤ span_of ps a + span_of ps b + 4 * (many * slack_of ps a b)

  -- from the one pulse to the other it is as long as these have to be
  abbrev pub IsBridged : ℕ → Walk → Walk → Type 0
  IsBridged n w v =
      (0 < between n w v)
      × IsLong (micros_between ps (a.marker + w.last) (b.marker - v.last)) (between n w v)

-- they are n periods apart by their times and by the recorder's clock
pub record Fits (f : FormatView) (century : ℕ) (ps : List Pulse) (a b : Frame) (n : ℕ)
    : Type 0 where
  pub times : periods_apart century (frame_period_of f.kind) a.time b.time ≡ Some n
  pub clock : IsBridged ps a b n (last_after f ps a b) (last_before f ps a b) ⊎ Meets f ps a b n
