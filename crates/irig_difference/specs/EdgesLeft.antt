-- What the parts of the code show of the definitions.
use Rattle.std.specs.Prelude.{◌≡◌, ◌++◌, ℕ, Bool, true, false, List, [], ◌∷◌}
use Rattle.irig_recording.specs.declared.pulse.Pulse.{Pulse}
use Rattle.irig_track.specs.Edges.{edges_of}

-- the edges of pulses, without the first rise if the level is high
abbrev pub edges_left : List Pulse → Bool → List ℕ
edges_left [] high = []
edges_left (p ∷ ps) true = p.fall ∷ edges_of ps
edges_left (p ∷ ps) false = p.rise ∷ p.fall ∷ edges_of ps

-- two lists lost the same numbers at their fronts
pub record PassCommon (old new old2 new2 : List ℕ) : Type 0 where
  pub common : List ℕ
  pub first : old ≡ common ++ new
  pub second : old2 ≡ common ++ new2
