-- What a shift makes of a list of pulses. This project's own.
use Rattle.std.specs.Prelude.{ℕ, ℤ, pos, negsuc, suc, ◌+◌, ◌-◌, ◌<◌, ◌≤◌, List, [], ◌∷◌, length}
use Rattle.std.specs.Prelude.{map}
use Rattle.irig_recording.specs.declared.pulse.Pulse.{Pulse}
use Rattle.irig_track.specs.Splices.{spliced, piece}
use Rattle.irig_track.specs.{Edges.pulse, Edges.edges_of, Track.IsTrack}

-- by how much a distance goes on; 0 if it goes back
abbrev pub ahead : ℤ → ℕ
ahead (pos n) = n
ahead (negsuc n) = 0

-- by how much a distance goes back; 0 if it goes on
abbrev pub back : ℤ → ℕ
back (pos n) = 0
back (negsuc n) = suc n

-- the pulse with both edges moved on and then back
abbrev pub moved_pulse : ℕ → ℕ → Pulse → Pulse
moved_pulse on off p = pulse (p.rise + on - off) (p.fall + on - off)

-- the pulses with all edges moved by d microseconds, if none goes to before 0
abbrev pub moved : ℤ → List Pulse → List Pulse
moved d ps = map (moved_pulse (ahead d) (back d)) ps

-- how many pulses go from the i-th to the j-th, both included
abbrev pub count_to : ℕ → ℕ → ℕ
count_to i j = j - i + 1

-- the pulses with those from the i-th to the j-th moved, both included, from 0
abbrev pub shifted : ℕ → ℕ → ℤ → List Pulse → List Pulse
shifted i j d ps = spliced i (count_to i j) (moved d (piece i (count_to i j) ps)) ps

-- no number moves to before 0
abbrev pub StaysFromZero : ℤ → List ℕ → Type 0
StaysFromZero d [] = Unit {0}
StaysFromZero d (x ∷ xs) = (back d ≤ x + ahead d) × StaysFromZero d xs

-- the pulses that move are there, none moves to before 0, and the shift leaves a track
pub record CanShift (micros i j : ℕ) (d : ℤ) (ps : List Pulse) : Type 0 where
  pub order : i ≤ j
  pub there : j < length ps
  pub from_zero : StaysFromZero d (edges_of (piece i (count_to i j) ps))
  pub track : IsTrack micros (shifted i j d ps)
