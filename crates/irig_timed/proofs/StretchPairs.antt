-- The two frames around a pulse are found by how many frames begin up to it.
use Rattle.std.proofs.Common.{◌≡◌, inl, inr, ◌<◌, ◌≤◌, ◌+◌, ◌-◌, ℕ, zero, suc, cond, List, [], ◌∷◌, length, slice_get, get_or, Some, None, arith, refl, sym, ap, ◌∙◌}
use Rattle.std.proofs.lemmas.Bool.{cases_lt, le-ltb, lt-ltb}
use Rattle.std.proofs.lemmas.Option.{same_Some, slice_get-get_or, slice_get_within}
use Rattle.irig_recording.specs.declared.pulse.Pulse.{Pulse}
use Rattle.irig_law.specs.{Points.AreFrames, declared.frame.Frame.Frame}
use Rattle.irig_timed.specs.Stretches.{FramesUpTo, frame_before, last_by, last_from, next_by}

abbrev pub none-frame : Frame
none-frame = record { marker = 0; time = record { year = None; days = 0; hours = 0; minutes = 0; micros = 0 } }

-- the last of them, and the first one after it
later-frames : (a : Frame) (frames : List Frame) (k c : ℕ) → FramesUpTo (a ∷ frames) k (suc c) → FramesUpTo frames k c
later-frames a frames k c h = record {
  before = λ i x at less. h.before (suc i) x at (omega (arith, less));
  after = λ i x at le. h.after (suc i) x at (omega (arith, le));
}

from-last : (a : Frame) (frames : List Frame) (k c : ℕ) → FramesUpTo (a ∷ frames) k (suc c) → c ≤ length frames
    → slice_get (a ∷ frames) c ≡ Some (last_from a frames k)
from-last a [] k zero h few = refl
from-last a [] k (suc c) h few = absurd (omega (arith, few))
from-last a (b ∷ frames) k zero h few =
    let later = h.after 1 b refl (omega arith) in
    sym (ap (λ v. Some (cond v a (last_from b frames k))) (lt-ltb k b.marker later))
from-last a (b ∷ frames) k (suc c) h few =
    let begun = h.before 1 b refl (omega arith) in
    from-last b frames k c (later-frames a (b ∷ frames) k (suc c) h) (omega (arith, few))
    ∙ sym (ap (λ v. Some (cond v a (last_from b frames k))) (le-ltb k b.marker begun))

pub last-pair : (frames : List Frame) (k many : ℕ) → FramesUpTo frames k many → many ≤ length frames → frame_before frames many ≡ last_by frames k
last-pair [] k zero h few = refl
last-pair [] k (suc c) h few = absurd (omega (arith, few))
last-pair (a ∷ frames) k zero h few =
    let later = h.after 0 a refl (omega arith) in
    sym (ap (λ v. cond v None (Some (last_from a frames k))) (lt-ltb k a.marker later))
last-pair (a ∷ frames) k (suc c) h few =
    let begun = h.before 0 a refl (omega arith) in
    from-last a frames k c h (omega (arith, few))
    ∙ sym (ap (λ v. cond v None (Some (last_from a frames k))) (le-ltb k a.marker begun))

pub next-pair : (frames : List Frame) (k many : ℕ) → FramesUpTo frames k many → many ≤ length frames → slice_get frames many ≡ next_by frames k
next-pair [] k zero h few = refl
next-pair [] k (suc c) h few = refl
next-pair (a ∷ frames) k zero h few =
    let later = h.after 0 a refl (omega arith) in
    sym (ap (λ v. cond v (Some a) (next_by frames k)) (lt-ltb k a.marker later))
next-pair (a ∷ frames) k (suc c) h few =
    let begun = h.before 0 a refl (omega arith) in
    next-pair frames k c (later-frames a frames k c h) (omega (arith, few))
    ∙ sym (ap (λ v. cond v (Some a) (next_by frames k)) (le-ltb k a.marker begun))

module _ (ps : List Pulse) (frames : List Frame) (are : AreFrames ps frames) where
  apart-by : (i d : ℕ) (a b : Frame) → slice_get frames i ≡ Some a → slice_get frames (i + suc d) ≡ Some b → a.marker < b.marker
  apart-by i zero a b at at_too =
      let next : i + 1 ≡ i + suc zero = omega arith in
      are.order i a b at (ap (λ (j : ℕ). slice_get frames j) next ∙ at_too)
  apart-by i (suc d) a b at at_too =
      let inside = slice_get_within frames (i + suc (suc d)) b at_too in
      let there = slice_get-get_or frames (i + suc d) a (omega (arith, inside)) in
      let next : i + suc d + 1 ≡ i + suc (suc d) = omega arith in
      let low = apart-by i d a (get_or frames (i + suc d) a) at there in
      let high = are.order (i + suc d) (get_or frames (i + suc d) a) b there (ap (λ (j : ℕ). slice_get frames j) next ∙ at_too) in
      omega (arith, low, high)

  frames-apart : (i j : ℕ) (a b : Frame) → slice_get frames i ≡ Some a → slice_get frames j ≡ Some b → i < j → a.marker < b.marker
  frames-apart i j a b at at_too less =
      let d = j - (i + 1) in
      let sum : j ≡ i + suc d = omega (arith, less) in
      apart-by i d a b at (ap (λ (k : ℕ). slice_get frames k) (sym sum) ∙ at_too)

  module _ (number m : ℕ) (one : Frame) (here : slice_get frames m ≡ Some one) where
    pub frames_to_here : one.marker ≤ number → (k : ℕ) (a : Frame) → slice_get frames k ≡ Some a → k < m + 1 → a.marker ≤ number
    frames_to_here low k a there less = elim (cases_lt k m) [
      | inl early ↦ (let order = frames-apart k m a one there here early in omega (arith, order, low))
      | inr last ↦
          let at : k ≡ m = omega (arith, less, last) in
          let same : a ≡ one = same_Some a one (sym there ∙ (ap (λ (j : ℕ). slice_get frames j) at ∙ here)) in
          let markers = ap (λ (z : Frame). z.marker) same in omega (arith, markers, low)
    ]

    pub frames_from_here : number < one.marker → (k : ℕ) (a : Frame) → slice_get frames k ≡ Some a → m ≤ k → number < a.marker
    frames_from_here high k a there le = elim (cases_lt m k) [
      | inl late ↦ (let order = frames-apart m k one a here there late in omega (arith, order, high))
      | inr first ↦
          let at : k ≡ m = omega (arith, le, first) in
          let same : a ≡ one = same_Some a one (sym there ∙ (ap (λ (j : ℕ). slice_get frames j) at ∙ here)) in
          let markers = ap (λ (z : Frame). z.marker) same in omega (arith, markers, high)
    ]
