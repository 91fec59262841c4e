-- The stretches of a track without a time. This project's own.
use Rattle.std.specs.Prelude.{◌≡◌, ◌≢◌, ◌⊎◌, ◌↔◌, ◌*◌, ◌<◌, ◌≤◌, ℕ, List, [], ◌∷◌}
use Rattle.irig_recording.specs.declared.pulse.Pulse.{Pulse}
use Rattle.irig_track.specs.Splices.{risen_by}
use Rattle.irig_times.specs.declared.why.Why.{Why}
use Rattle.irig_stamps.specs.declared.stretch.Stretch.{Stretch}

-- the moment n / d microseconds after the start is in a stretch
abbrev pub Covers : Stretch → ℕ → ℕ → Type 0
Covers s d n = (d * s.begin ≤ n) × (n < d * s.end)

-- it is in one of some stretches, which has this reason
abbrev pub IsIn : List Stretch → ℕ → ℕ → Why → Type 0
IsIn [] d n why = ⊥
IsIn (s ∷ before) d n why = (Covers s d n × (s.why ≡ why)) ⊎ IsIn before d n why

-- a stretch is after others, which are from the last to the first: if it touches the one before,
-- that has another reason
abbrev pub IsAfterAll : List Stretch → Stretch → Type 0
IsAfterAll [] t = t.begin < t.end
IsAfterAll (s ∷ before) t =
    (t.begin < t.end) × (s.end ≤ t.begin) × (s.end ≡ t.begin → s.why ≢ t.why)

-- some stretches, from the last to the first, are in order
abbrev pub AreInOrder : List Stretch → Type 0
AreInOrder [] = Unit {0}
AreInOrder (s ∷ before) = IsAfterAll before s × AreInOrder before

-- A track of some microseconds has no time in just these stretches, from the last to the first, as
-- far as a microsecond: whatever the moment, it has no time for a reason exactly if it is in one
-- with that reason.
pub record AreHoles (has_none : ℕ → ℕ → Why → Type 0) (limit : ℕ) (stretches : List Stretch)
    : Type 0 where
  pub order : AreInOrder stretches
  pub within : (d n : ℕ) (why : Why) → IsIn stretches d n why → n < d * limit
  pub exact : (d n : ℕ) (why : Why) → 0 < d → n < d * limit
      → has_none d n why ↔ IsIn stretches d n why

-- from a microsecond on this many pulses have risen, and before it fewer
pub record HasBegun (ps : List Pulse) (risen begin : ℕ) : Type 0 where
  pub after : (t : ℕ) → begin ≤ t → risen ≤ risen_by t ps
  pub before : (t : ℕ) → t < begin → risen_by t ps < risen

-- from a microsecond up to another one this many have
abbrev pub IsBetween : List Pulse → ℕ → ℕ → ℕ → Type 0
IsBetween ps risen begin end = (t : ℕ) → begin ≤ t → t < end → risen_by t ps ≡ risen
