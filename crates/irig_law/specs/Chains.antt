-- The frames that read well and have a time, which of them agree with each other, and their chains.
-- This project's own.
use Rattle.std.specs.Prelude.{ℕ, ◌+◌, ◌-◌, ◌*◌, ◌%◌, ◌==◌, ◌&&◌, nat_le, nat_lt, Bool, List, []}
use Rattle.std.specs.Prelude.{◌∷◌, if◌then◌else◌, slice_get, Option, Some, None}
use Rattle.irig_codes.specs.Format.{FormatView, frame_period_of}
use Rattle.irig_codes.specs.declared.fields.Fields.{Fields}
use Rattle.irig_law.specs.{Calendar.micros_after, Clocks.apart, declared.chain.Chain.Chain}
use Rattle.irig_law.specs.declared.fine.Fine.{Fine}
use Rattle.irig_recording.specs.declared.pulse.Pulse.{Pulse}
use Rattle.irig_index.specs.{Frames.frames, declared.record.Record.Record}
use Rattle.irig_times.specs.{Times.time_in, Times.timed, Steps.micros_between}

-- when a pulse rises
abbrev pub rise_of : Option Pulse → ℕ
rise_of None = 0
rise_of (Some p) = p.rise

-- a frame that begins with a marker and has these fields
abbrev pub fine_at : List Pulse → ℕ → Fields → Fine
fine_at ps marker g = record {
  frame = record { marker = marker; time = time_in g 0 };
  rise = rise_of (slice_get ps marker);
  span = micros_between ps marker (marker + 99);
}

-- one more frame before others, if it has a time
abbrev pub with_fine : List Pulse → ℕ → Option Fields → List Fine → List Fine
with_fine ps marker None rest = rest
with_fine ps marker (Some g) rest = fine_at ps marker g ∷ rest

abbrev pub fine_in : FormatView → List Pulse → List Record → List Fine
fine_in f ps [] = []
fine_in f ps (r ∷ rs) = with_fine ps r.marker (timed f r.verdict) (fine_in f ps rs)

-- the same of all frames of a track
abbrev pub fine_frames : FormatView → List Pulse → List Fine
fine_frames f ps = fine_in f ps (frames f ps)

-- two markers are these microseconds of the code apart, by the clock of both frames, to half a
-- period: each interval, a hundredth of a period, lasts a 198th of both
abbrev pub is_apart : ℕ → ℕ → Fine → Fine → Bool
is_apart period micros a b =
    nat_le (2 * apart (198 * (period * (b.rise - a.rise))) (100 * (micros * (a.span + b.span))))
    (100 * (period * (a.span + b.span)))

-- so are two frames whose times are some whole periods apart, less than 495
abbrev pub agree_by : ℕ → ℕ → Fine → Fine → Bool
agree_by period micros a b =
    nat_lt 0 micros && (nat_lt micros (495 * period) && ((micros % period == 0)
    && is_apart period micros a b))

-- a frame agrees with a later one
abbrev pub agree : FormatView → ℕ → Fine → Fine → Bool
agree f century a b =
    agree_by (frame_period_of f.kind) (micros_after century a.frame.time b.frame.time) a b

-- A chain is frames of which each but the first agrees with the one before it. A frame alone; a
-- chain that goes on to a frame.
abbrev pub alone : Fine → Chain
alone x = record { first = x; last = x; many = 1 }

abbrev pub longer : Chain → Fine → Chain
longer c x = record c { last = x; many = c.many + 1 }

-- the chains of a list of frames: of a chain so far, and the frames that come next
abbrev pub chains_from : FormatView → ℕ → Chain → List Fine → List Chain
chains_from f century c [] = c ∷ []
chains_from f century c (x ∷ xs) =
    if agree f century c.last x then chains_from f century (longer c x) xs
    else (c ∷ chains_from f century (alone x) xs)

abbrev pub chains_of : FormatView → ℕ → List Fine → List Chain
chains_of f century [] = []
chains_of f century (x ∷ xs) = chains_from f century (alone x) xs
