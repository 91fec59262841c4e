-- What is reported of the frames that differ is short.
use Rattle.std.proofs.Common.{◌≡◌, ◌==◌, nat_lt, ℕ, suc, ◌++◌, ◌∙◌, Bool, true, false, cond, List, [], ◌∷◌, Some, map, filter, slice_get, refl, sym, ap, subst}
use Rattle.std.specs.Prelude.{if◌then◌else◌, nat_le}
use Rattle.std.specs.List.{AllByRecursion}
use Rattle.irig_recording.specs.declared.pulse.Pulse.{Pulse}
use Rattle.irig_index.specs.{Frames.frame_at, Kept.IsNarrow, declared.record.Record.Record}
use Rattle.irig_index.proofs.NarrowVerdicts.{narrow-verdict_of}
use Rattle.irig_comments.proofs.Markers.{frame-tells}
use Rattle.irig_comments.specs.{Framed.FramedView, Framed.IsFramed, Framed.shown_frames, Framed.shown_from, Parts.begun_by, Parts.not_begun_by}
use Rattle.irig_comments.specs.Sides.{at_place, begun_after, begun_before, changes, differs, made, place, sides, sides_of}
use Rattle.irig_comments.specs.{declared.shown.Shown.Shown, declared.sides.Sides.Sides}
use Rattle.irig_comments.proofs.ShortTexts.{IsShort}

abbrev AreNarrowFrames : List Shown → Type 0
AreNarrowFrames ss = AllByRecursion (λ s. IsNarrow s.verdict) ss

-- both sides are short
abbrev pub AreShort : List Sides → Type 0
AreShort ss = AllByRecursion (λ s. IsShort s.before × IsShort s.after) ss

narrow-filter : (test : Shown → Bool) (ss : List Shown) → AreNarrowFrames ss → AreNarrowFrames (filter test ss)
narrow-filter test [] h = tt
narrow-filter test (s ∷ ss) h = elim (test s) as (λ v. AreNarrowFrames (cond v (s ∷ filter test ss) (filter test ss))) [
  | true ↦ (h.0, narrow-filter test ss h.1)
  | false ↦ narrow-filter test ss h.1
]

short-at_place : (t : ℕ) (ss : List Shown) → AreNarrowFrames ss → IsShort (at_place t ss)
short-at_place t [] h = tt
short-at_place t (s ∷ ss) h = elim (s.rise == t) as (λ v. IsShort (cond v (Some s) (at_place t ss))) [
  | true ↦ h.0
  | false ↦ short-at_place t ss h.1
]

short-made : (ss : List Shown) (rest : List Sides) → AreNarrowFrames ss → AreShort rest → AreShort (map made ss ++ rest)
short-made [] rest h k = k
short-made (s ∷ ss) rest h k = ((tt, h.0), short-made ss rest h.1 k)

short-only : (ss : List Shown) → AreNarrowFrames ss → AreShort (map made ss)
short-only [] h = tt
short-only (s ∷ ss) h = ((tt, h.0), short-only ss h.1)

short-sides_of : (xs ys : List Shown) → AreNarrowFrames xs → AreNarrowFrames ys → AreShort (sides_of xs ys)
short-sides_of [] ys h k = short-only ys k
short-sides_of (x ∷ xs) ys h k =
    short-made (begun_before x.rise ys) (sides (Some x) (at_place x.rise ys) ∷ sides_of xs (begun_after x.rise ys))
    (narrow-filter (λ s. nat_lt s.rise x.rise) ys k)
    ((h.0, short-at_place x.rise ys k), short-sides_of xs (begun_after x.rise ys) h.1 (narrow-filter (λ s. nat_lt x.rise s.rise) ys k))

short-filter : (ss : List Sides) → AreShort ss → AreShort (filter differs ss)
short-filter [] h = tt
short-filter (s ∷ ss) h = elim (differs s) as (λ v. AreShort (cond v (s ∷ filter differs ss) (filter differs ss))) [
  | true ↦ (h.0, short-filter ss h.1)
  | false ↦ short-filter ss h.1
]

pub short-begun_by : (t : ℕ) (ss : List Sides) → AreShort ss → AreShort (begun_by t ss)
short-begun_by t [] h = tt
short-begun_by t (s ∷ ss) h = elim (nat_le (place s) t) as (λ v. AreShort (if v then s ∷ begun_by t ss else [])) [
  | true ↦ (h.0, short-begun_by t ss h.1)
  | false ↦ tt
]

pub short-not_begun_by : (t : ℕ) (ss : List Sides) → AreShort ss → AreShort (not_begun_by t ss)
short-not_begun_by t [] h = tt
short-not_begun_by t (s ∷ ss) h = elim (nat_le (place s) t) as (λ v. AreShort (if v then not_begun_by t ss else s ∷ ss)) [
  | true ↦ short-not_begun_by t ss h.1
  | false ↦ h
]

narrow-shown_from : (number : ℕ) (ps : List Pulse) (rs : List Record) → ((k : ℕ) (r : Record) → slice_get rs k ≡ Some r → IsNarrow r.verdict)
    → AreNarrowFrames (shown_from number ps rs)
narrow-shown_from number ps [] h = tt
narrow-shown_from number ps (r ∷ rs) h = (h 0 r refl, narrow-shown_from (suc number) ps rs (λ k a here. h (suc k) a here))

narrow-shown_frames : (x : FramedView) → IsFramed x → AreNarrowFrames (shown_frames x)
narrow-shown_frames x h =
    narrow-shown_from 1 x.pulses x.records
    (λ k r here.
    let tells = frame-tells x.format x.pulses k r (ap (λ (l : List Record). slice_get l k) (sym h.are) ∙ here) in
    subst IsNarrow (sym tells.verdict) (narrow-verdict_of x.format (frame_at x.pulses r.marker)))

-- what differs is short
pub short-changes : (b a : FramedView) → IsFramed b → IsFramed a → AreShort (changes b a)
short-changes b a x y = short-filter (sides_of (shown_frames b) (shown_frames a))
    (short-sides_of (shown_frames b) (shown_frames a) (narrow-shown_frames b x) (narrow-shown_frames a y))
