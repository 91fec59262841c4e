-- The pulses on both sides of a gap, while a toggle goes through them. This project's own.
use Rattle.std.specs.Prelude.{◌≡◌, ℕ, ◌+◌, ◌≤◌, List, [], ◌∷◌, ◌++◌, take, drop}
use Rattle.irig_gap.specs.Items.{GapView}
use Rattle.irig_recording.specs.{declared.pulse.Pulse.Pulse, Recording.RisesFrom}
use Rattle.irig_track.specs.{Edges.edges_of, Edges.Under, Toggles.flipped}

-- the pulses left of the gap
abbrev pub left_of : GapView Pulse → List Pulse
left_of v = take v.place v.items

-- the pulses right of the gap
abbrev pub right_of : GapView Pulse → List Pulse
right_of v = drop v.place v.items

-- the edges with a rise at the gap that waits for its fall
abbrev pub waiting : GapView Pulse → ℕ → List ℕ
waiting v x = edges_of (left_of v) ++ (x ∷ edges_of (right_of v))

-- the first pulse ends at a or later
abbrev pub ReachesFrom : ℕ → List Pulse → Type 0
ReachesFrom a [] = Unit {0}
ReachesFrom a (p ∷ ps) = a ≤ p.fall

-- all rise at or before b
abbrev pub RiseUpTo : ℕ → List Pulse → Type 0
RiseUpTo b [] = Unit {0}
RiseUpTo b (p ∷ ps) = (p.rise ≤ b) × RiseUpTo b ps

-- pulses went from the right of the gap, and pulses came to its left, all rising up to b
pub record Stays (b : ℕ) (old new : GapView Pulse) : Type 0 where
  pub gone : List Pulse
  pub made : List Pulse
  pub right : right_of old ≡ gone ++ right_of new
  pub left : left_of new ≡ left_of old ++ made
  pub early : RiseUpTo b gone
  pub late : RiseUpTo b made
  pub capacity : new.capacity ≡ old.capacity

-- p went from the right of the gap
pub record Took (p : Pulse) (old new : GapView Pulse) : Type 0 where
  pub left : left_of new ≡ left_of old
  pub right : right_of old ≡ p ∷ right_of new
  pub capacity : new.capacity ≡ old.capacity

-- p came to the left of the gap
pub record Wrote (p : Pulse) (old new : GapView Pulse) : Type 0 where
  pub left : left_of new ≡ left_of old ++ p ∷ []
  pub right : right_of new ≡ right_of old
  pub capacity : new.capacity ≡ old.capacity

-- a is toggled, and the rise x waits
pub record Begun (a x : ℕ) (old new : GapView Pulse) : Type 0 where
  pub edges : waiting new x ≡ flipped a (edges_of old.items)
  pub left : Under (a + 1) (edges_of (left_of new))
  pub stays : Stays a old new

-- b is toggled where the rise x waited
pub record Finished (b x : ℕ) (old new : GapView Pulse) : Type 0 where
  pub edges : edges_of new.items ≡ flipped b (waiting old x)
  pub right : RisesFrom (b + 1) (edges_of (right_of new))
  pub stays : Stays b old new
