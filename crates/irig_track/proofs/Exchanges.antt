-- Pulses replaced by others, one after the other, each in its place.
use Rattle.std.proofs.Common.{◌≡◌, ℕ, ◌+◌, ◌<◌, ◌≤◌, List, [], ◌∷◌, length, take, drop, insert, remove, slice_get, slice_set, Option, Some, sym, ap, ◌∙◌, subst}
use Rattle.std.proofs.Common.{arith, length-drop, refl}
use Rattle.std.proofs.lemmas.{List.drop-drop, List.length-take-le, List.Edits.insert_end, Option.slice_get_within}
use Rattle.irig_gap.specs.Items.{GapView, gap_view}
use Rattle.irig_recording.specs.declared.pulse.Pulse.{Pulse}
use Rattle.irig_track.specs.Splices.{spliced, piece}
use Rattle.irig_track.proofs.{Carried.first_of_drop, Carried.length-piece, Items.take-item, MovedPulses.more_piece, MovedPulses.more_set, MovedPulses.unmoved}

-- the first of what is left is removed
remove_first : (qs : List Pulse) → remove qs 0 ≡ drop 1 qs
remove_first [] = refl
remove_first (q ∷ qs) = refl

-- what is in three gaps after m pulses
abbrev pub LeftToPut : GapView Pulse → ℕ → GapView Pulse
LeftToPut p m = gap_view (drop m p.items) 0 p.capacity

abbrev pub TakenSoFar : GapView Pulse → GapView Pulse → ℕ → ℕ → GapView Pulse
TakenSoFar g k at m = gap_view (piece at m g.items) m k.capacity

abbrev pub ReplacedSoFar : GapView Pulse → GapView Pulse → ℕ → ℕ → GapView Pulse
ReplacedSoFar g p at m = gap_view (spliced at m (take m p.items) g.items) g.place g.capacity

module _ (g p k : GapView Pulse) (at m : ℕ) (x y : Pulse) (there : at + m < length g.items) where
  -- the pulse that goes is as before
  pub goes : (u : GapView Pulse) → m ≤ length p.items → u ≡ ReplacedSoFar g p at m → slice_get u.items (at + m) ≡ Some x
      → slice_get g.items (at + m) ≡ Some x
  goes u few ue is =
      sym (unmoved (take at g.items) (take m p.items) (drop (at + m) g.items) at m (length-take-le at g.items (omega arith))
      (length-take-le m p.items few) ∙ first_of_drop g.items (at + m))
      ∙ (ap (λ (w : GapView Pulse). slice_get w.items (at + m)) (sym ue) ∙ is)

  -- and goes to those that were taken
  pub taken_more : (v w : GapView Pulse) → slice_get g.items (at + m) ≡ Some x → v ≡ TakenSoFar g k at m
      → w ≡ gap_view (insert v.items v.place x) (v.place + 1) v.capacity → w ≡ TakenSoFar g k at (m + 1)
  taken_more v w is ve we =
      let long : length (piece at m g.items) ≡ m = length-piece g.items at m (omega arith) in
      we ∙ ap (λ (z : GapView Pulse). gap_view (insert z.items z.place x) (z.place + 1) z.capacity) ve
      ∙ ap (λ zs. gap_view zs (m + 1) k.capacity)
      (ap (λ n. insert (piece at m g.items) n x) (sym long) ∙ (insert_end (piece at m g.items) x ∙ sym (more_piece at m x g.items is)))

  -- the pulse that comes is in its place
  pub replaced_more : (u w : GapView Pulse) → slice_get g.items (at + m) ≡ Some x → slice_get p.items m ≡ Some y → u ≡ ReplacedSoFar g p at m
      → w ≡ gap_view (slice_set u.items (at + m) y) u.place u.capacity → w ≡ ReplacedSoFar g p at (m + 1)
  replaced_more u w is come ue we =
      let long : length (take m p.items) ≡ m = length-take-le m p.items (omega (arith, slice_get_within p.items m y come)) in
      we ∙ ap (λ (z : GapView Pulse). gap_view (slice_set z.items (at + m) y) z.place z.capacity) ue
      ∙ ap (λ zs. gap_view zs g.place g.capacity)
      (more_set at m x y (take m p.items) g.items long is ∙ ap (λ zs. spliced at (m + 1) zs g.items) (sym (take-item p.items m y come)))

-- the next pulse that comes
pub comes : (p v w : GapView Pulse) (m : ℕ) (y : Pulse) (r : Option Pulse) → m < length p.items → v ≡ LeftToPut p m → r ≡ Some y
    → (v.place < length v.items → (r ≡ slice_get v.items v.place) × (w ≡ gap_view (remove v.items v.place) v.place v.capacity))
    → (slice_get p.items m ≡ Some y) × (w ≡ LeftToPut p (m + 1))
comes p v w m y r lt ve re took =
    let inside : v.place < length v.items =
    subst (λ (z : GapView Pulse). z.place < length z.items) (sym ve) (omega (arith, length-drop m p.items)) in
    let t = took inside in (
      sym (first_of_drop p.items m) ∙ (sym (ap (λ (z : GapView Pulse). slice_get z.items z.place) ve) ∙ (sym t.0 ∙ re)),
      t.1 ∙ ap (λ (z : GapView Pulse). gap_view (remove z.items z.place) z.place z.capacity) ve
          ∙ ap (λ zs. gap_view zs 0 p.capacity) (remove_first (drop m p.items) ∙ (drop-drop 1 m p.items)),
    )
