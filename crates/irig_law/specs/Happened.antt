-- What happened in a stretch between two frames, and what its two lists say then of a pulse. This
-- project's own.
use Rattle.std.specs.Prelude.{◌≡◌, ◌↔◌, ℕ, ◌+◌, ◌-◌, ◌*◌, ◌<◌, ◌≤◌, nat_le, nat_lt, Bool, List}
use Rattle.std.specs.Prelude.{get_or, length, slice_get, Option, Some, None, if◌then◌else◌}
use Rattle.irig_codes.specs.Format.{FormatView}
use Rattle.irig_recording.specs.declared.pulse.Pulse.{Pulse}
use Rattle.irig_law.specs.{Elements.element_after, Fits.Fits, Quiet.denying, Quiet.quiet_of}
use Rattle.irig_law.specs.{Law.IsAfter, Law.IsBefore, Stretches.by_second, Stretches.first_denials}
use Rattle.irig_law.specs.Stretches.{named_after, second_denials}
use Rattle.irig_law.specs.{declared.frame.Frame.Frame, declared.happened.Happened.Happened}
use Rattle.irig_law.specs.declared.happened.Happened.TheVariants.{Event, Nothing}
use Rattle.irig_law.specs.{declared.names.Seen.Seen, declared.point.Point.Point}
use Rattle.irig_law.specs.declared.sides.Sides.{Sides}

-- these are the sides of an event
pub record AreSides (first second : List Bool) (sides : Sides) : Type 0 where
  pub before : (k : ℕ) → (k < sides.until) ↔ IsBefore first second k
  pub after : (k : ℕ) → k < length first → (sides.from ≤ k) ↔ IsAfter first second k

-- the frames fit, or there was an event, which has sides
abbrev pub HasHappened : FormatView → ℕ → List Pulse → Frame → Frame → Happened → Type 0
HasHappened f century ps a b (Nothing n) = Fits f century ps a b n
HasHappened f century ps a b (Event sides) =
    ((n : ℕ) → Fits f century ps a b n → ⊥)
    × AreSides (first_denials f ps a b) (second_denials f ps a b) sides

-- by this the element of a pulse of which this is seen by the two frames
abbrev pub event_of : FormatView → Frame → Frame → Sides → ℕ → Seen → Seen → Option Point
event_of f a b sides k s t =
    if nat_le k a.marker then element_after f a 0
    else (if nat_lt (k - a.marker) sides.until then named_after f a s
    else (if nat_le sides.from (k - a.marker) then by_second f b k t else None))

-- Without an event a list has of each frame of the code how many pulses deny it; a frame after its
-- end is denied by none.
abbrev pub AreDenials : FormatView → List Pulse → Frame → Frame → Happened → List ℕ → Type 0
AreDenials f ps a b (Nothing n) denials = (q : ℕ) → get_or denials q 0 ≡ denying f ps a b n q
AreDenials f ps a b (Event sides) denials = Unit {0}

abbrev pub is_doubtful_in : List ℕ → ℕ → Bool
is_doubtful_in denials q = nat_lt 1 (get_or denials q 0)

abbrev pub point_by : FormatView → Frame → Frame → Happened → List ℕ → ℕ → Seen → Seen
    → Option Point
point_by f a b (Nothing n) denials k s t =
    quiet_of f a b (100 * n) (is_doubtful_in denials) k s t
point_by f a b (Event sides) denials k s t = event_of f a b sides k s t

-- this is what is said of the pulse at a place of the stretch
abbrev pub IsPointBy : FormatView → Frame → Frame → Happened → List ℕ → List Seen → List Seen → ℕ
    → Option Point → Type 0
IsPointBy f a b h denials after before i y = (s t : Seen) → slice_get after i ≡ Some s
    → slice_get before (b.marker - (a.marker + i)) ≡ Some t
    → y ≡ point_by f a b h denials (a.marker + i) s t
