-- Which recorded pulses are in step with those next to them, and what is in the place of one. This
-- project's own.
use Rattle.std.specs.Prelude.{◌+◌, ◌-◌, ◌*◌, ◌==◌, ◌&&◌, ◌||◌, ◌++◌, ℕ, zero, suc, Bool, List, []}
use Rattle.std.specs.Prelude.{◌∷◌, if◌then◌else◌, length, min, nat_le, nat_lt, slice_get}
use Rattle.std.specs.List.{list_any}
use Rattle.irig_codes.specs.Format.{FormatView, interval_of}
use Rattle.irig_recording.specs.declared.pulse.Pulse.{Pulse}
use Rattle.irig_safety.specs.{Rises.rise_or}

-- when the pulse at a place rises, from 0
abbrev pub rise_at : List Pulse → ℕ → ℕ
rise_at ps n = rise_or (slice_get ps n)

-- a rise is one index count interval after another, to a tenth of it
abbrev pub is_step : FormatView → ℕ → ℕ → Bool
is_step f one other = nat_le (9 * interval_of f.kind) (10 * (other - one))
    && nat_le (10 * (other - one)) (11 * interval_of f.kind)

-- the two pulses after the one at a place follow it and each other so
abbrev pub go_on : FormatView → List Pulse → ℕ → Bool
go_on f ps n = is_step f (rise_at ps n) (rise_at ps (n + 1))
    && is_step f (rise_at ps (n + 1)) (rise_at ps (n + 2))

-- the pulse at a place is in step: the two before it, it and the two after it follow each other so
abbrev pub is_in_step : FormatView → List Pulse → ℕ → Bool
is_in_step f ps n = nat_lt 1 n && nat_lt n (length ps) && nat_lt 2 (length ps - n)
    && go_on f ps (n - 2) && go_on f ps n

-- a rise, if this is so
abbrev pub step_if : Bool → ℕ → List ℕ
step_if so t = if so then t ∷ [] else []

-- the rises of those that are in step, of that many pulses from a place on
abbrev pub steps_among : FormatView → List Pulse → ℕ → ℕ → List ℕ
steps_among f ps from zero = []
steps_among f ps from (suc n) = steps_among f ps from n
    ++ step_if (is_in_step f ps (from + n)) (rise_at ps (from + n))

-- so of the pulses from a place on that are in no frame with one of these markers, each of a
-- hundred pulses
abbrev pub loose_from : FormatView → List Pulse → ℕ → List ℕ → List ℕ
loose_from f ps from [] = steps_among f ps from (length ps - from)
loose_from f ps from (m ∷ markers) = steps_among f ps from (m - from)
    ++ loose_from f ps (min (m + 100) (length ps)) markers

-- so of all pulses of a recording; none if its frames may move
abbrev pub loose_of : Bool → FormatView → List Pulse → List ℕ → List ℕ
loose_of moved f ps markers = if moved then [] else loose_from f ps 0 markers

-- a pulse is in the place of one that rose at a time: it rises then, to a tenth of an interval; or
-- it falls then, as a gap that was turned over
abbrev pub is_in_place : FormatView → Pulse → ℕ → Bool
is_in_place f p t = nat_le (10 * p.rise) (10 * t + interval_of f.kind)
    && nat_le (10 * t) (10 * p.rise + interval_of f.kind)
    || p.fall == t

-- one of some pulses is
abbrev pub has_place : FormatView → List Pulse → ℕ → Bool
has_place f ps t = list_any (λ p. is_in_place f p t) ps
