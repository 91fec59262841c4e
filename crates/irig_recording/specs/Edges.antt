-- How edges are kept as pulses.
use Rattle.std.specs.Prelude.{◌*◌, ◌+◌, ℕ, Bool, List, [], ◌∷◌, ◌++◌, if◌then◌else◌}
use Rattle.irig_recording.specs.{Pulses.edges_of, declared.pulse.Pulse.Pulse}

-- the most edges that are kept of a recording that may have `most` pulses: one more than they have
unfoldable pub edges_kept : ℕ → ℕ
edges_kept most = 2 * most + 1

-- the edges of pulses, and after them a rise, if one has no fall yet
abbrev pub kept_edges : List Pulse → Bool → ℕ → List ℕ
kept_edges pulses is_open rise = edges_of pulses ++ (if is_open then rise ∷ [] else [])
