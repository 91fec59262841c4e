-- THE LAW OF TIME for a whole recording: which element each pulse is, if that is known, and the
-- same part by part. This project's own.
use Rattle.std.specs.Prelude.{◌≡◌, ℕ, ◌+◌, ◌≤◌, ◌<◌, List, length, slice_get, Some, ◌↔◌, zero, suc}
use Rattle.std.specs.Prelude.{◌-◌, Option, None}
use Rattle.irig_codes.specs.Format.{FormatView}
use Rattle.irig_recording.specs.declared.pulse.Pulse.{Pulse}
use Rattle.irig_times.specs.TimedElements.{time_elements}
use Rattle.irig_law.specs.{Ends.IsAfterLast, Ends.IsBeforeFirst, Law.IsBetween}
use Rattle.irig_law.specs.{declared.frame.Frame.Frame, declared.point.Point.Point}
use Rattle.irig_law.specs.declared.points.Points.{Points}

-- The believed frames of a recording are in order, and each has all its pulses. A second can be the
-- 61st of its minute.
pub record AreFrames (ps : List Pulse) (frames : List Frame) : Type 0 where
  pub inside : (i : ℕ) (a : Frame) → slice_get frames i ≡ Some a → a.marker + 100 ≤ length ps
  pub minute : (i : ℕ) (a : Frame) → slice_get frames i ≡ Some a → a.time.micros < 61000000
  pub order : (i : ℕ) (a b : Frame) → slice_get frames i ≡ Some a
      → slice_get frames (i + 1) ≡ Some b → a.marker < b.marker

module _ (f : FormatView) (century : ℕ) (ps : List Pulse) (frames : List Frame) where
  -- They cut it into stretches, which overlap where a frame has the elements of its time. Of the
  -- stretches up to a frame, each one that the pulse is in says that it is this element.
  pub record IsSaid (many k : ℕ) (x : Point) : Type 0 where
    pub begin : (b : Frame) → slice_get frames 0 ≡ Some b → k < b.marker + time_elements f.kind
        → IsBeforeFirst f ps b k x
    pub between : (i : ℕ) (a b : Frame) → i + 1 < many → slice_get frames i ≡ Some a
        → slice_get frames (i + 1) ≡ Some b → a.marker ≤ k → k < b.marker + time_elements f.kind
        → IsBetween f century ps a b k x

  -- A pulse is this element: each stretch that it is in says so, also the one after the last frame.
  pub record IsPoint (k : ℕ) (x : Point) : Type 0 where
    pub some : 0 < length frames
    pub inside : k < length ps
    pub said : IsSaid (length frames) k x
    pub end : (i : ℕ) (a : Frame) → i + 1 ≡ length frames → slice_get frames i ≡ Some a
        → a.marker ≤ k → IsAfterLast f ps a k x

-- The believed frames cut a recording into parts, which do not overlap: part 0 begins with the
-- first pulse, and each other one with the marker of a frame. After the last part are `all` pulses.
abbrev pub marker_or : ℕ → Option Frame → ℕ
marker_or all None = all
marker_or all (Some a) = a.marker

abbrev pub part_begin : ℕ → List Frame → ℕ → ℕ
part_begin all frames zero = 0
part_begin all frames (suc i) = marker_or all (slice_get frames i)

-- one after the last pulse that some points have
abbrev pub points_end : Points → ℕ
points_end p = p.from + length p.list.items

-- by some points a pulse is this element
pub record Knows (p : Points) (k : ℕ) (x : Point) : Type 0 where
  pub from : p.from ≤ k
  pub is : slice_get p.list.items (k - p.from) ≡ Some (Some x)

-- The points of a stretch, which begins with the pulse `from`, are joined with those of the
-- stretches before it: of the first `many` pulses is known what both say.
pub record AreJoined (before : Points) (from : ℕ) (old new : List (Option Point)) (many : ℕ)
    : Type 0 where
  pub long : length new ≡ length old
  pub joined : (i : ℕ) (x : Point) → (slice_get new i ≡ Some (Some x))
      ↔ ((slice_get old i ≡ Some (Some x)) × (i < many → Knows before (from + i) x))

module _ (f : FormatView) (century : ℕ) (ps : List Pulse) (frames : List Frame) (n : ℕ) where
  -- points are what the stretches up to frame n say, from part n on, to the last pulse of that
  -- frame that carries its time
  pub record AreSaid (p : Points) : Type 0 where
    pub last : Frame
    pub there : slice_get frames n ≡ Some last
    pub from : p.from ≤ last.marker
    pub long : points_end p ≡ last.marker + time_elements f.kind
    pub said : (k : ℕ) (x : Point) → part_begin (length ps) frames n ≤ k → k < points_end p
        → Knows p k x ↔ IsSaid f century ps frames (n + 1) k x

  -- of each pulse of part n they have the element that it is
  abbrev pub ArePoints : Points → Type 0
  ArePoints p = (k : ℕ) (x : Point) → part_begin (length ps) frames n ≤ k
      → k < part_begin (length ps) frames (n + 1) → Knows p k x ↔ IsPoint f century ps frames k x
