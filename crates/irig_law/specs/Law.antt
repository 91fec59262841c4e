-- THE LAW OF TIME between two believed frames next to each other, with an event or without one:
-- which element a pulse is, and which pulses are before the one event. This project's own.
use Rattle.std.specs.Prelude.{◌≡◌, ◌⊎◌, ℕ, ◌+◌, ◌-◌, ◌≤◌, ◌<◌, List, Some, Bool, true, slice_get}
use Rattle.irig_codes.specs.Format.{FormatView}
use Rattle.irig_recording.specs.declared.pulse.Pulse.{Pulse}
use Rattle.irig_times.specs.TimedElements.{time_elements}
use Rattle.irig_law.specs.{Clocks.slack_of, Denials.seen_after, Denials.seen_before}
use Rattle.irig_law.specs.{Elements.element_after, Fits.Fits, Quiet.quiet_element}
use Rattle.irig_law.specs.Stretches.{by_second, first_denials, named_after, second_denials}
use Rattle.irig_law.specs.{declared.point.Point.Point, declared.frame.Frame.Frame}

-- Each pulse of a stretch, from 0, has two names: its element by the frame before, and by the frame
-- after. A list says of each whether it denies one: it is of another class, or on no grid.
abbrev pub Denies : List Bool → ℕ → Type 0
Denies list k = slice_get list k ≡ Some true

-- An event in or after a pulse is possible: no pulse before it denies the name by the frame before,
-- and none after it that by the frame after.
pub record IsPossible (first second : List Bool) (place : ℕ) : Type 0 where
  pub before : (k : ℕ) → k < place → Denies first k → ⊥
  pub after : (k : ℕ) → place < k → Denies second k → ⊥

-- two pulses after one deny; two pulses before one deny
pub record TwoAfter (list : List Bool) (k : ℕ) : Type 0 where
  pub one : ℕ
  pub other : ℕ
  pub later : k < one
  pub order : one < other
  pub denies : Denies list one
  pub denies_too : Denies list other

pub record TwoBefore (list : List Bool) (k : ℕ) : Type 0 where
  pub one : ℕ
  pub other : ℕ
  pub order : one < other
  pub earlier : other < k
  pub denies : Denies list one
  pub denies_too : Denies list other

-- a pulse is before the event: an event is possible, and two pulses after the pulse deny that they
-- are after the event
pub record IsBefore (first second : List Bool) (k : ℕ) : Type 0 where
  pub place : ℕ
  pub possible : IsPossible first second place
  pub shown : TwoAfter second k

-- it is after the event: two pulses before it deny that they are before the event
pub record IsAfter (first second : List Bool) (k : ℕ) : Type 0 where
  pub place : ℕ
  pub possible : IsPossible first second place
  pub shown : TwoBefore first k

module _ (f : FormatView) (ps : List Pulse) (a b : Frame) (k : ℕ) (x : Point) where
  -- a pulse before the event has its name by the first frame
  pub record IsOnFirst : Type 0 where
    pub before : IsBefore (first_denials f ps a b) (second_denials f ps a b) (k - a.marker)
    pub is : named_after f a (seen_after f ps a (slack_of ps a b) k) ≡ Some x

  -- one after the event has its name by the second frame
  pub record IsOnSecond : Type 0 where
    pub after : IsAfter (first_denials f ps a b) (second_denials f ps a b) (k - a.marker)
    pub is : by_second f b k (seen_before f ps b (slack_of ps a b) k) ≡ Some x

-- a pulse of a stretch is this element: no event is between the frames, or there was one; the first
-- frame's marker is its element, wherever the event is
module _ (f : FormatView) (century : ℕ) (ps : List Pulse) (a b : Frame) (k : ℕ) (x : Point) where
  pub record IsQuiet : Type 0 where
    pub periods : ℕ
    pub fits : Fits f century ps a b periods
    pub is : quiet_element f ps a b periods k ≡ Some x

  pub record IsOnSide : Type 0 where
    pub event : (n : ℕ) → Fits f century ps a b n → ⊥
    pub side : ((k ≡ a.marker) × (element_after f a 0 ≡ Some x))
        ⊎ (IsOnFirst f ps a b k x ⊎ IsOnSecond f ps a b k x)

  pub record IsBetween : Type 0 where
    pub from : a.marker ≤ k
    pub to : k < b.marker + time_elements f.kind
    pub is : IsQuiet ⊎ IsOnSide
