-- The stretches in which two recordings differ, as pulses that are high where they do. This
-- project's own.
use Rattle.std.specs.Prelude.{ℕ, Bool, false, List, [], ◌∷◌, ◌||◌, ◌&&◌, nat_le, nat_lt}
use Rattle.irig_recording.specs.{declared.pulse.Pulse.Pulse, Recording.RecordingView}
use Rattle.irig_track.specs.Edges.{pulse}
use Rattle.irig_difference.specs.Flips.{flips}

-- a time is in one of the stretches: each goes from its rise on to before its fall
abbrev pub is_within : ℕ → List Pulse → Bool
is_within t [] = false
is_within t (p ∷ ps) = (nat_le p.rise t && nat_lt t p.fall) || is_within t ps

-- numbers, two by two
abbrev pub pairs : List ℕ → List Pulse
pairs [] = []
pairs (a ∷ []) = []
pairs (a ∷ b ∷ xs) = pulse a b ∷ pairs xs

-- the stretches between the edges that only one of two recordings has
abbrev pub stretches_between : RecordingView → RecordingView → List Pulse
stretches_between before after = pairs (flips after.edges before.edges)
