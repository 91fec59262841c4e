-- Which pulses of a frame are where a recording has them: those that rise when a pulse of it does.
-- They hold the others in their places. This project's own.
use Rattle.std.specs.Prelude.{◌+◌, ◌==◌, ◌&&◌, ◌||◌, ℕ, zero, suc, Bool, false, List}
use Rattle.std.specs.Prelude.{Option, Some, None, if◌then◌else◌, slice_get}
use Rattle.std.specs.List.{list_any}
use Rattle.irig_recording.specs.declared.pulse.Pulse.{Pulse}

-- some pulse rises at a time
abbrev pub is_rise : List Pulse → ℕ → Bool
is_rise pulses t = list_any (λ p. p.rise == t) pulses

-- some pulse falls at a time
abbrev pub is_fall : List Pulse → ℕ → Bool
is_fall pulses t = list_any (λ p. p.fall == t) pulses

-- a pulse is an anchor: it rises when one of the recorded pulses does; or it is a gap between them
-- that was turned over, rises when one falls and falls when one rises
abbrev pub is_anchor : List Pulse → Option Pulse → Bool
is_anchor recorded None = false
is_anchor recorded (Some p) =
    is_rise recorded p.rise || (is_fall recorded p.rise && is_rise recorded p.fall)

-- the pulse of an element is one, of the frame with this marker
abbrev pub is_anchored : List Pulse → List Pulse → ℕ → ℕ → Bool
is_anchored recorded pulses marker j = is_anchor recorded (slice_get pulses (marker + j))

-- the last anchor before an element
abbrev pub last_anchor : List Pulse → List Pulse → ℕ → ℕ → Option ℕ
last_anchor recorded pulses marker zero = None
last_anchor recorded pulses marker (suc j) =
    if is_anchored recorded pulses marker j then Some j else last_anchor recorded pulses marker j

-- the first anchor of the n elements from one on
abbrev pub next_anchor : List Pulse → List Pulse → ℕ → ℕ → ℕ → Option ℕ
next_anchor recorded pulses marker zero j = None
next_anchor recorded pulses marker (suc n) j =
    if is_anchored recorded pulses marker j then Some j
    else next_anchor recorded pulses marker n (j + 1)

-- how many anchors there are among the first n elements
abbrev pub anchors_among : List Pulse → List Pulse → ℕ → ℕ → ℕ
anchors_among recorded pulses marker zero = 0
anchors_among recorded pulses marker (suc n) =
    anchors_among recorded pulses marker n
    + (if is_anchored recorded pulses marker n then 1 else 0)
