-- The time of each point of a recording is the true one.
use Rattle.std.proofs.Common.{◌≡◌, inl, inr, ◌<◌, ◌≤◌, ◌+◌, ◌-◌, ℕ, suc, zero, List, [], ◌∷◌, length, slice_get, get_or, Some, arith, ap, ◌∙◌}
use Rattle.std.proofs.lemmas.Bool.{cases_lt}
use Rattle.std.proofs.lemmas.Option.{slice_get-get_or, slice_get_within}
use Rattle.irig_codes.specs.Format.{FormatView}
use Rattle.irig_codes.specs.declared.fields.Fields.{Fields}
use Rattle.irig_recording.specs.declared.pulse.Pulse.{Pulse}
use Rattle.irig_law.specs.{Points.IsPoint, Printed.printed, Printed.true_time}
use Rattle.irig_law.specs.Points.{ArePoints, Knows, part_begin}
use Rattle.irig_law.specs.Theorem.{Story, TimesAreTrue}
use Rattle.irig_law.specs.declared.{frame.Frame.Frame, point.Point.Point, points.Points.Points}
use Rattle.irig_law.proofs.Printed.{begin_times, end_times, eventful_times, quiet_times, time-few}

module _ (f : FormatView) (century : ℕ) (ps : List Pulse) (frames : List Frame) (name : ℕ → ℕ) (sent : ℕ → Fields)
    (story : Story f century ps frames name sent) (k : ℕ) (x : Point) (is : IsPoint f century ps frames k x) where
  abbrev IsTrue : Type 0
  IsTrue = printed f x ≡ true_time f sent (name k)

  in-stretch : (i : ℕ) (a b : Frame) → slice_get frames i ≡ Some a → slice_get frames (i + 1) ≡ Some b → a.marker ≤ k → k < b.marker → IsTrue
  in-stretch i a b at next low high =
      let te = time-few f in
      let between = is.said.between i a b (let inside = slice_get_within frames (i + 1) b next in omega (arith, inside)) at next low (omega (arith, high)) in
      let few : k < b.marker + 100 = omega (arith, high) in
      elim between.is [
        | inl q ↦ (let s = story.quiet i q.periods a b at next q.fits in quiet_times f century ps a b s.0 name sent s.1 k x low few q)
        | inr q ↦ (let s = story.eventful i a b at next q.event in eventful_times f century ps a b s.0 s.1 name sent s.2 k x low few q)
      ]

  -- the pulse is before the marker of a frame
  before-frame : (i : ℕ) (b : Frame) → slice_get frames i ≡ Some b → k < b.marker → IsTrue
  before-frame zero b at high =
      let s = story.begin b at in begin_times f ps b s.0 name sent s.1 k x (is.said.begin b at (omega (arith, high)))
  before-frame (suc i) b at high =
      let inside = slice_get_within frames (suc i) b at in
      let there = slice_get-get_or frames i b (omega (arith, inside)) in
      let next : i + 1 ≡ suc i = omega arith in
      elim (cases_lt k (get_or frames i b).marker) [
        | inl less ↦ before-frame i (get_or frames i b) there less
        | inr ge ↦ in-stretch i (get_or frames i b) b there (ap (λ (j : ℕ). slice_get frames j) next ∙ at) ge high
      ]

  by-last : (n : ℕ) → n + 1 ≡ length frames → (a : Frame) → slice_get frames n ≡ Some a → IsTrue
  by-last n last a at = elim (cases_lt k a.marker) [
    | inl less ↦ before-frame n a at less
    | inr ge ↦ (let s = story.end n a last at in end_times f ps a s.0 name sent s.1 k x (is.end n a last at ge))
  ]

  some-frame : (l : List Frame) → 0 < length l → Frame
  some-frame l some = first l some
    where
      first : (l : List Frame) → 0 < length l → Frame
      first [] some = absurd (omega (arith, some))
      first (a ∷ l) some = a

  pub point_true : IsTrue
  point_true =
      let some = is.some in
      let d = some-frame frames some in
      let n = length frames - 1 in
      by-last n (omega (arith, some)) (get_or frames n d) (slice_get-get_or frames n d (omega (arith, some)))

pub times_true : TimesAreTrue
times_true f century ps frames name sent story k x is = point_true f century ps frames name sent story k x is

-- so are those of the points of a part
pub part_true : (f : FormatView) (century : ℕ) (ps : List Pulse) (frames : List Frame) (part : ℕ) (p : Points)
    → ArePoints f century ps frames part p → (name : ℕ → ℕ) (sent : ℕ → Fields) → Story f century ps frames name sent → (k : ℕ) (x : Point)
    → part_begin (length ps) frames part ≤ k → k < part_begin (length ps) frames (part + 1) → Knows p k x → printed f x ≡ true_time f sent (name k)
part_true f century ps frames part p points name sent story k x low high known =
    times_true f century ps frames name sent story k x ((points k x low high).0 known)
