-- WHICH PULSES ARE DOUBTED: those that have no time for it alone that their frame of the code is
-- doubtful. This project's own.
use Rattle.std.specs.Prelude.{◌≡◌, ℕ, ◌+◌, ◌*◌, ◌/◌, ◌&&◌, nat_le, nat_lt, Bool, true, false}
use Rattle.std.specs.Prelude.{List, Option, Some, None}
use Rattle.irig_codes.specs.Format.{FormatView}
use Rattle.irig_recording.specs.declared.pulse.Pulse.{Pulse}
use Rattle.irig_law.specs.{Clocks.slack_of, Denials.seen_after, Denials.seen_before, Fits.Fits}
use Rattle.irig_law.specs.{Quiet.is_doubtful, Quiet.name_of, Stretches.middle_element}
use Rattle.irig_law.specs.declared.{frame.Frame.Frame, names.Seen.Seen, point.Point.Point}

abbrev pub is_there : Option Point → Bool
is_there None = false
is_there (Some x) = true

-- a pulse between two frames, `whole` elements apart, has an element by its names, but two pulses
-- deny its frame of the code
abbrev pub doubted_by : FormatView → Frame → Frame → ℕ → (ℕ → Bool) → ℕ → Seen → Seen → Bool
doubted_by f a b whole doubtful k s t =
    nat_le (a.marker + 100) k
    && (nat_lt k b.marker
    && (doubtful (name_of whole s t / 100) && is_there (middle_element f a b whole s t)))

-- so it is between two believed frames next to each other that fit
pub record IsDoubted (f : FormatView) (century : ℕ) (ps : List Pulse) (a b : Frame) (k : ℕ)
    : Type 0 where
  pub periods : ℕ
  pub fits : Fits f century ps a b periods
  pub is : doubted_by f a b (100 * periods) (is_doubtful f ps a b periods) k
      (seen_after f ps a (slack_of ps a b) k) (seen_before f ps b (slack_of ps a b) k) ≡ true
