-- What refuses calls, each a test of a state. This project's own.
use Rattle.std.specs.Prelude.{◌+◌, ◌-◌, ◌*◌, ◌^◌, ℕ, ℤ, Bool, not, ◌&&◌, ◌||◌, nat_lt, nat_le}
use Rattle.std.specs.Prelude.{length}
use Rattle.std.specs.List.{list_any}
use Rattle.irig_codes.specs.Format.{control_count_of}
use Rattle.irig_track.specs.{Edges.edges_of, Edges.is_edge, Shifts.ahead, Shifts.back}
use Rattle.irig_edit.specs.Edits.Regenerated.{frames_end, rising_in}
use Rattle.irig_edit.specs.{Edits.Edits.pulse_of, State.Marks.moved_time, State.State.State}
use Rattle.irig_recording.specs.Recording.{level_by_edges}

-- two times in order, none above the length
abbrev pub is_range : ℕ → ℕ → State → Bool
is_range a b s = nat_lt a b && nat_le b s.micros

-- pulses i to j are there, from 1
abbrev pub are_pulses : ℕ → ℕ → State → Bool
are_pulses i j s = nat_le 1 i && (nat_le i j && nat_le j (length s.pulses))

-- an edge lies in a to b, both included, or the level at a is high
abbrev pub is_touched : ℕ → ℕ → State → Bool
is_touched a b s =
    list_any (λ e. nat_le a e && nat_le e b) (edges_of s.pulses)
    || level_by_edges a (edges_of s.pulses)

-- a and b lie inside of pulse i
abbrev pub is_inside : ℕ → ℕ → ℕ → State → Bool
is_inside i a b s = nat_lt (pulse_of i s).rise a && nat_lt b (pulse_of i s).fall

-- one more pulse would be too many
abbrev pub is_full : State → Bool
is_full s = nat_le (2 ^ 22) (length s.pulses)

-- turning the level between a and b makes one more pulse if neither is an edge
abbrev pub is_overfull : ℕ → ℕ → State → Bool
is_overfull a b s = is_full s && not (is_edge a s.pulses || is_edge b s.pulses)

-- the pulse after pulse i rises at or before a time
abbrev pub meets_next : ℕ → ℕ → State → Bool
meets_next i time s = nat_lt i (length s.pulses) && nat_le (pulse_of (i + 1) s).rise time

-- pulses i to j, moved by d, leave the track
abbrev pub leaves : ℕ → ℕ → ℤ → State → Bool
leaves i j d s =
    nat_lt ((pulse_of i s).rise + ahead d) (back d)
    || nat_lt s.micros (moved_time d (pulse_of j s).fall)

-- pulses i to j, moved by d, meet the pulse before them or the one after
abbrev pub meets : ℕ → ℕ → ℤ → State → Bool
meets i j d s =
    (nat_lt 1 i && nat_le (moved_time d (pulse_of i s).rise) (pulse_of (i - 1) s).fall)
    || meets_next j (moved_time d (pulse_of j s).fall) s

-- the fall of pulse i with the nominal width of an element
abbrev pub fall_at : ℕ → ℕ → State → ℕ
fall_at i width s = (pulse_of i s).rise + width

-- there are 1 to 10,000 frames, and they end within the length
abbrev pub are_frames : ℕ → ℕ → State → Bool
are_frames start frames s =
    nat_le 1 frames && (nat_le frames 10000 && nat_le (frames_end s.format start frames) s.micros)

-- a pulse rises before a time and falls at it or after it
abbrev pub is_met : ℕ → State → Bool
is_met time s = list_any (λ p. nat_lt p.rise time && nat_le time p.fall) s.pulses

-- frames would leave more than 2^22 pulses: those there are and that come, without those that go
abbrev pub are_too_many : ℕ → ℕ → State → Bool
are_too_many start frames s =
    nat_lt (2 ^ 22 + length (rising_in start (frames_end s.format start frames) s.pulses))
    (length s.pulses + 100 * frames)

-- the control functions need more elements than the format has for them
abbrev pub is_wide : ℕ → State → Bool
is_wide control s = nat_le (2 ^ control_count_of s.format) control
