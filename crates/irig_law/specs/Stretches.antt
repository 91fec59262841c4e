-- THE LAW OF TIME between two believed frames next to each other: which element each pulse is, if
-- that is known. A stretch goes from the marker of the first frame to the last element of the
-- second one that carries its time. This project's own.
use Rattle.std.specs.Prelude.{ℕ, zero, suc, ◌+◌, ◌-◌, ◌==◌, nat_le, Bool, true, List, [], ◌∷◌}
use Rattle.std.specs.Prelude.{Option, Some, None, if◌then◌else◌}
use Rattle.irig_codes.specs.Format.{FormatView}
use Rattle.irig_recording.specs.declared.pulse.Pulse.{Pulse}
use Rattle.irig_times.specs.TimedElements.{time_elements}
use Rattle.irig_law.specs.{Clocks.slack_of, Denials.denies_first, Denials.denies_second}
use Rattle.irig_law.specs.Elements.{element_after, element_before}
use Rattle.irig_law.specs.{declared.point.Point.Point, declared.frame.Frame.Frame}
use Rattle.irig_law.specs.{declared.names.Seen.Seen, declared.names.Seen.TheVariants.Named}

-- the element of what is seen by the first frame, or by the second one
abbrev pub named_after : FormatView → Frame → Seen → Option Point
named_after f a (Named e) = element_after f a e
named_after f a other = None

abbrev pub named_before : FormatView → Frame → Seen → Option Point
named_before f b (Named e) = element_before f b e
named_before f b other = None

-- names after the first frame and before the second one are of one element, if both are known
abbrev pub are_alike : ℕ → Seen → Seen → Bool
are_alike whole (Named e) (Named g) = e + g == whole
are_alike whole s t = true

abbrev pub first_of : Option Point → Option Point → Option Point
first_of None y = y
first_of (Some x) y = Some x

-- without an event, if the frames are `whole` elements apart: the element of one name, and no other
-- one by the other name
abbrev pub middle_element : FormatView → Frame → Frame → ℕ → Seen → Seen → Option Point
middle_element f a b whole s t =
    if are_alike whole s t then first_of (named_after f a s) (named_before f b t) else None

-- after an event: its name by the second frame, from the marker of that one on its element
abbrev pub by_second : FormatView → Frame → ℕ → Seen → Option Point
by_second f b k t =
    if nat_le k b.marker then named_before f b t else element_after f b (k - b.marker)

-- how many pulses a stretch has; of each, whether it denies its name by one of the frames
abbrev pub stretch : FormatView → Frame → Frame → ℕ
stretch f a b = b.marker + time_elements f.kind - a.marker

abbrev pub denials : (ℕ → Bool) → ℕ → ℕ → List Bool
denials test k zero = []
denials test k (suc n) = test k ∷ denials test (k + 1) n

abbrev pub first_denials : FormatView → List Pulse → Frame → Frame → List Bool
first_denials f ps a b = denials (denies_first f ps a (slack_of ps a b)) a.marker (stretch f a b)

abbrev pub second_denials : FormatView → List Pulse → Frame → Frame → List Bool
second_denials f ps a b = denials (denies_second f ps b (slack_of ps a b)) a.marker (stretch f a b)
