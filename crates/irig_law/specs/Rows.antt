-- The pulses after a frame's marker, or before it, and which of them are no noise. This project's
-- own.
use Rattle.std.specs.Prelude.{ℕ, ◌+◌, ◌-◌, ◌==◌, ◌&&◌, ◌||◌, nat_le, nat_lt, Bool, true, false}
use Rattle.std.specs.Prelude.{List, length, if◌then◌else◌}
use Rattle.irig_codes.specs.Format.{FormatView}
use Rattle.irig_recording.specs.declared.pulse.Pulse.{Pulse}
use Rattle.irig_times.specs.Steps.{is_in_step_at, micros_between}
use Rattle.irig_law.specs.{declared.frame.Frame.Frame, declared.row.Row.Row}

-- the pulses from a frame's marker on, and those back from it
abbrev pub row_after : Frame → Row
row_after a = record { marker = a.marker; is_back = false }

abbrev pub row_before : Frame → Row
row_before b = record { marker = b.marker; is_back = true }

-- the number of a pulse of a row, and how long after the marker it rises, or before it
abbrev pub place_in : Row → ℕ → ℕ
place_in r k = if r.is_back then r.marker - k else r.marker + k

abbrev pub rise_in : List Pulse → Row → ℕ → ℕ
rise_in ps r k =
    if r.is_back then micros_between ps (r.marker - k) r.marker
    else micros_between ps r.marker (r.marker + k)

-- a pulse is in step with the one before it, or one of them is not there
abbrev pub is_joined : FormatView → List Pulse → ℕ → Bool
is_joined f ps k = (k == 0) || (nat_le (length ps) k || is_in_step_at f ps k)

-- the two before a pulse and the two after it are in step with it, as far as they are there
abbrev pub is_clean : FormatView → List Pulse → ℕ → Bool
is_clean f ps k =
    nat_lt k (length ps)
    && (is_joined f ps (k - 1)
    && (is_joined f ps k && (is_joined f ps (k + 1) && is_joined f ps (k + 2))))

abbrev pub runs_in : FormatView → List Pulse → Row → ℕ → Bool
runs_in f ps r k = is_clean f ps (place_in r k)

-- the two before a pulse, or the two after it, are
abbrev pub is_half_clean : FormatView → List Pulse → ℕ → Bool
is_half_clean f ps k =
    nat_lt k (length ps)
    && ((is_joined f ps (k - 1) && is_joined f ps k)
    || (is_joined f ps (k + 1) && is_joined f ps (k + 2)))

abbrev pub half_in : FormatView → List Pulse → Row → ℕ → Bool
half_in f ps r k = is_half_clean f ps (place_in r k)
