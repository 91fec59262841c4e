-- What is known of the pulses of the former frames of a recording, so that they are not compared
-- again. This project's own.
use Rattle.std.specs.Prelude.{◌≡◌, ◌≤◌, ◌⊎◌, ◌+◌, ℕ, List, Option, Some, None, get_or}
use Rattle.irig_recording.specs.declared.pulse.Pulse.{Pulse}
use Rattle.irig_track.specs.Splices.{IsSpan}
use Rattle.irig_safety.specs.{Original.OriginalView, Rises.KeepsRises}

-- for some former frames the marker of a frame is known whose pulses rise as theirs
abbrev pub AreKnown : OriginalView → List Pulse → List (Option ℕ) → Type 0
AreKnown o ps known = (place marker : ℕ) → get_or known place None ≡ Some marker
    → KeepsRises o.pulses (get_or o.markers place 0) ps marker

-- some pulses from a place on became that many, and all others stay
abbrev pub Became : ℕ → ℕ → List Pulse → List Pulse → Type 0
Became at come old new = (gone : ℕ) × IsSpan at gone come old new

-- a marker that is known among one number of pulses, and then among another: it is before the place
-- with all pulses of its frame, or after those that became others; or nothing is known
abbrev pub Follows : ℕ → ℕ → ℕ → ℕ → Option ℕ → Option ℕ → Type 0
Follows at come before after one None = Unit {0}
Follows at come before after None (Some n) = ⊥
Follows at come before after (Some m) (Some n) =
    ((m + 100 ≤ at) × (n ≡ m))
    ⊎ ((at + before + come ≤ m + after) × (n + before ≡ m + after))
