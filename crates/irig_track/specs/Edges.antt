-- The edges of pulses: a rising list of times, and by membership a set. This project's own.
use Rattle.std.specs.Prelude.{ℕ, ◌<◌, ◌==◌, nat_le, List, [], ◌∷◌, Bool, true, false, cond, not}
use Rattle.std.specs.Prelude.{◌&&◌, ◌||◌}
use Rattle.irig_recording.specs.declared.pulse.Pulse.{Pulse}
pub use Rattle.irig_recording.specs.Pulses.{pulse, edges_of}

-- t is among the numbers
abbrev pub has : ℕ → List ℕ → Bool
has t [] = false
has t (x ∷ xs) = cond (x == t) true (has t xs)

-- t is an edge of the pulses
abbrev pub is_edge : ℕ → List Pulse → Bool
is_edge t ps = has t (edges_of ps)

-- all numbers are below t
abbrev pub Under : ℕ → List ℕ → Type 0
Under t [] = Unit {0}
Under t (x ∷ xs) = (x < t) × Under t xs

-- What an edit makes of a set of edges: v says whether the time t is an edge, the result
-- whether it is one afterwards.

-- two times are added
abbrev pub with_both : ℕ → ℕ → ℕ → Bool → Bool
with_both a b t v = v || ((a == t) || (b == t))

-- some go, and some come
abbrev pub replaced : List ℕ → List ℕ → ℕ → Bool → Bool
replaced gone come t v = (v && not (has t gone)) || has t come

-- some go
abbrev pub without : List ℕ → ℕ → Bool → Bool
without gone t v = v && not (has t gone)

-- those from low to high go, both included
abbrev pub without_between : ℕ → ℕ → ℕ → Bool → Bool
without_between low high t v = v && not (nat_le low t && nat_le t high)

-- the symmetric difference with two times
abbrev pub inverted : ℕ → ℕ → ℕ → Bool → Bool
inverted a b t v = cond ((a == t) || (b == t)) (not v) v
