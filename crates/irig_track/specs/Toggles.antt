-- What a toggle makes of the edges: the symmetric difference with two times. This project's own.
use Rattle.std.specs.Prelude.{ℕ, ◌<◌, ◌≤◌, ◌==◌, nat_lt, List, [], ◌∷◌, cond}
use Rattle.irig_recording.specs.{Recording.IsRecording, declared.pulse.Pulse.Pulse}
use Rattle.irig_track.specs.Edges.{edges_of}

-- the rising list with t removed if it is there, and added if it is not
abbrev pub flipped : ℕ → List ℕ → List ℕ
flipped t [] = t ∷ []
flipped t (x ∷ xs) = cond (nat_lt t x) (t ∷ x ∷ xs) (cond (x == t) xs (x ∷ flipped t xs))

-- the symmetric difference with a and b
abbrev pub toggled : ℕ → ℕ → List ℕ → List ℕ
toggled a b xs = flipped b (flipped a xs)

-- the times are in order and within the length, and the toggle leaves the edges of a track
pub record CanToggle (micros a b : ℕ) (ps : List Pulse) : Type 0 where
  pub order : a < b
  pub within : b ≤ micros
  pub track : IsRecording micros (toggled a b (edges_of ps))
