-- The frames of two recordings by their places, and those that differ. A frame's place is the rise
-- of its marker, in microseconds. This project's own.
use Rattle.std.specs.Prelude.{◌≡◌, ◌==◌, ◌≤◌, ◌+◌, ℕ, Bool, true, false, not, List, [], ◌∷◌, ◌++◌}
use Rattle.std.specs.Prelude.{map, filter, find, nat_lt, Option, Some, None, if◌then◌else◌}
use Rattle.irig_comments.specs.{Framed.FramedView, Framed.shown_frames, Same.same_verdict}
use Rattle.irig_comments.specs.{declared.shown.Shown.Shown, declared.sides.Sides.Sides}

-- the frames that begin at one place on both sides, if any
abbrev pub sides : Option Shown → Option Shown → Sides
sides b a = record { before = b; after = a }

-- a frame that only the recording after has
abbrev pub made : Shown → Sides
made a = sides None (Some a)

-- the frame of a list that has a place
abbrev pub at_place : ℕ → List Shown → Option Shown
at_place t = find (λ s. s.rise == t)

-- those of a list that begin before a place
abbrev pub begun_before : ℕ → List Shown → List Shown
begun_before t = filter (λ s. nat_lt s.rise t)

-- those of a list that begin after a place
abbrev pub begun_after : ℕ → List Shown → List Shown
begun_after t = filter (λ s. nat_lt t s.rise)

-- the frames of both by their places: those after that begin before the first one before, this one
-- with the one after that has its place, and then the rest
abbrev pub sides_of : List Shown → List Shown → List Sides
sides_of [] ys = map made ys
sides_of (x ∷ xs) ys =
    map made (begun_before x.rise ys)
    ++ sides (Some x) (at_place x.rise ys) ∷ sides_of xs (begun_after x.rise ys)

-- only one side has a frame, or both have one and something else is reported of it
abbrev pub differ_in : Option Shown → Option Shown → Bool
differ_in None None = false
differ_in None (Some a) = true
differ_in (Some b) None = true
differ_in (Some b) (Some a) = not (same_verdict b.verdict a.verdict)

-- the two sides differ
abbrev pub differs : Sides → Bool
differs s = differ_in s.before s.after

-- the frames of two recordings that differ, in the order of their places
abbrev pub changes : FramedView → FramedView → List Sides
changes b a = filter differs (sides_of (shown_frames b) (shown_frames a))

-- the place of a frame, or of the other one
abbrev pub place_in : Option Shown → Option Shown → ℕ
place_in (Some b) a = b.rise
place_in None (Some a) = a.rise
place_in None None = 0

-- where frames begin
abbrev pub place : Sides → ℕ
place s = place_in s.before s.after

-- the frames of two lists that have a place, if they differ
abbrev pub change_at : ℕ → List Shown → List Shown → Option Sides
change_at t xs ys = if differ_in (at_place t xs) (at_place t ys)
    then Some (sides (at_place t xs) (at_place t ys)) else None

-- the places rise, from one on
abbrev pub PlacesRise : ℕ → List Sides → Type 0
PlacesRise low [] = Unit {0}
PlacesRise low (s ∷ ss) = (low ≤ place s) × PlacesRise (place s + 1) ss

-- at each place there is what differs there and nothing else, in the order of places
pub record AreChanges (xs ys : List Shown) (cs : List Sides) : Type 0 where
  pub each : (t : ℕ) → find (λ s. place s == t) cs ≡ change_at t xs ys
  pub order : PlacesRise 0 cs
