-- Lists of what is seen of the pulses of a stretch by the frames at its ends, and what a frame at
-- an end of the recording says of a pulse. This project's own.
use Rattle.std.specs.Prelude.{◌≡◌, ℕ, ◌+◌, ◌-◌, ◌*◌, ◌^◌, ◌<◌, List, length, slice_get, Some, ◌&&◌}
use Rattle.std.specs.Prelude.{◌||◌, ◌==◌, nat_le, nat_lt, Bool, Option, None, if◌then◌else◌}
use Rattle.irig_codes.specs.Format.{FormatView}
use Rattle.irig_recording.specs.declared.pulse.Pulse.{Pulse}
use Rattle.irig_law.specs.{Denials.seen_after, Denials.seen_before, declared.frame.Frame.Frame}
use Rattle.irig_law.specs.{declared.names.Seen.Seen, declared.names.Seen.TheVariants.Named}
use Rattle.irig_law.specs.Elements.{element_after, element_before}
use Rattle.irig_law.specs.declared.point.Point.{Point}

module _ (f : FormatView) (ps : List Pulse) (p : Frame) (slack : ℕ) (list : List Seen) where
  -- a list begins with the marker of a frame, and goes on from it, or back; its names are small
  pub record SeenAfter : Type 0 where
    pub each : (k : ℕ) → k - p.marker < length list
        → slice_get list (k - p.marker) ≡ Some (seen_after f ps p slack k)
    pub low : (k e : ℕ) → slice_get list k ≡ Some (Named e) → e < 2 ^ 63

  pub record SeenBefore : Type 0 where
    pub each : (k : ℕ) → p.marker - k < length list
        → slice_get list (p.marker - k) ≡ Some (seen_before f ps p slack k)
    pub low : (k e : ℕ) → slice_get list k ≡ Some (Named e) → e < 2 ^ 63

-- In two such lists a pulse has the same name by both frames, which are n periods apart. The second
-- list ends with the pulse that the first one begins with.
pub record MeetAt (after before : List Seen) (n i : ℕ) : Type 0 where
  pub one : ℕ
  pub other : ℕ
  pub inside : i < length before
  pub named : slice_get after i ≡ Some (Named one)
  pub named_too : slice_get before (length before - 1 - i) ≡ Some (Named other)
  pub meets : one + other ≡ 100 * n

-- of a list that many pulses from its begin on are each the next element, and the one after is not
pub record AreInStep (list : List Seen) (steps : ℕ) : Type 0 where
  pub each : (k : ℕ) → k < steps → slice_get list k ≡ Some (Named k)
  pub last : slice_get list steps ≡ Some (Named steps) → ⊥

-- after the last frame
abbrev pub end_of : FormatView → Frame → Bool → ℕ → ℕ → Option Point
end_of f a none steps k =
    if (k == a.marker)
    || (none && (nat_lt k (a.marker + 200)
    && (nat_lt k (a.marker + 100) || nat_lt (k - a.marker) steps)))
    then element_after f a (k - a.marker) else None

-- before the first one
abbrev pub begin_of : FormatView → Frame → Bool → ℕ → ℕ → Option Point
begin_of f b none steps k =
    if none && nat_le b.marker (k + 100)
    then (if nat_le b.marker k then element_after f b (k - b.marker)
    else (if nat_lt (b.marker - k) steps then element_before f b (b.marker - k) else None))
    else None
