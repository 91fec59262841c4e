-- THE LAW OF TIME between two believed frames that fit: which element each pulse is. No event was
-- between them. This project's own.
use Rattle.std.specs.Prelude.{ℕ, ◌+◌, ◌-◌, ◌*◌, ◌/◌, ◌==◌, nat_le, nat_lt, Bool, List, slice_get}
use Rattle.std.specs.Prelude.{Option, Some, None, if◌then◌else◌}
use Rattle.irig_codes.specs.Format.{FormatView}
use Rattle.irig_recording.specs.declared.pulse.Pulse.{Pulse}
use Rattle.irig_law.specs.{Clocks.slack_of, Denials.is_denied, Denials.seen_after}
use Rattle.irig_law.specs.{Denials.seen_before, Elements.element_after, OfOne.sum_from}
use Rattle.irig_law.specs.{Stretches.middle_element, declared.point.Point.Point}
use Rattle.irig_law.specs.{declared.frame.Frame.Frame, declared.names.Seen.Seen}
use Rattle.irig_law.specs.declared.names.Seen.TheVariants.{Named}

-- how many elements after the marker of the first frame a pulse is by its names
abbrev pub back_from : ℕ → Seen → ℕ
back_from whole (Named e) = whole - e
back_from whole other = 0

abbrev pub name_of : ℕ → Seen → Seen → ℕ
name_of whole (Named e) t = e
name_of whole other t = back_from whole t

-- the frame of the code, counted from the first frame, of which a pulse denies an element
abbrev pub denied_frame : FormatView → List Pulse → Frame → Frame → ℕ → ℕ → Seen → Seen → Option ℕ
denied_frame f ps a b whole k s t =
    if is_denied f (slice_get ps k) (middle_element f a b whole s t)
    then Some (name_of whole s t / 100) else None

abbrev pub denied_at : FormatView → List Pulse → Frame → Frame → ℕ → ℕ → Option ℕ
denied_at f ps a b n k =
    denied_frame f ps a b (100 * n) k (seen_after f ps a (slack_of ps a b) k)
    (seen_before f ps b (slack_of ps a b) k)

-- how many pulses between the two frames deny elements of one; it is doubtful if two do
abbrev pub one_of : ℕ → Option ℕ → ℕ
one_of q None = 0
one_of q (Some r) = if r == q then 1 else 0

abbrev pub denying : FormatView → List Pulse → Frame → Frame → ℕ → ℕ → ℕ
denying f ps a b n q =
    sum_from (λ k. one_of q (denied_at f ps a b n k)) (a.marker + 100)
    (b.marker - (a.marker + 100))

abbrev pub is_doubtful : FormatView → List Pulse → Frame → Frame → ℕ → ℕ → Bool
is_doubtful f ps a b n q = nat_lt 1 (denying f ps a b n q)

-- A frame's own pulses are its elements. Those between have their name by one frame, and no other
-- by the other one, but for those of a frame that is doubtful. The frames are `whole` elements
-- apart.
abbrev pub quiet_of : FormatView → Frame → Frame → ℕ → (ℕ → Bool) → ℕ → Seen → Seen → Option Point
quiet_of f a b whole doubtful k s t =
    if nat_lt k (a.marker + 100) then element_after f a (k - a.marker)
    else (if nat_le b.marker k then element_after f b (k - b.marker)
    else (if doubtful (name_of whole s t / 100) then None else middle_element f a b whole s t))

abbrev pub quiet_element : FormatView → List Pulse → Frame → Frame → ℕ → ℕ → Option Point
quiet_element f ps a b n k =
    quiet_of f a b (100 * n) (is_doubtful f ps a b n) k (seen_after f ps a (slack_of ps a b) k)
    (seen_before f ps b (slack_of ps a b) k)
