-- Records by their place among all, whichever side of the gap they are on.
use Rattle.std.proofs.Common.{◌≡◌, ℕ, suc, zero, ◌+◌, ◌<◌, ◌≤◌, List, [], ◌∷◌, ◌++◌, map, take, drop, slice_get, slice_set, Some, refl, sym, ap, subst, ◌∙◌}
use Rattle.std.proofs.Common.{arith, add-one, append_assoc}
use Rattle.irig_gap.specs.Items.{GapView, gap_view}
use Rattle.irig_index.specs.{declared.record.Record.Record, Sides.turned, Sides.shown, Sides.BeginsAfter}
use Rattle.irig_track.proofs.Items.{drop-item, take-item}
use Rattle.irig_index.proofs.SideLemmas.{seen}

module _ {X : Type 0} where
  -- what a list is after an item of it is set
  set-parts : (xs : List X) (k : ℕ) (x y : X) → slice_get xs k ≡ Some x → slice_set xs k y ≡ take k xs ++ y ∷ drop (suc k) xs
  set-parts [] k x y e = cc
  set-parts (z ∷ xs) zero x y e = refl
  set-parts (z ∷ xs) (suc k) x y e = ap (λ zs. z ∷ zs) (set-parts xs k x y e)

  module _ (t : X → X) where
    map-slice_set : (xs : List X) (k : ℕ) (x : X) → map t (slice_set xs k x) ≡ slice_set (map t xs) k (t x)
    map-slice_set [] k x = refl
    map-slice_set (y ∷ xs) zero x = refl
    map-slice_set (y ∷ xs) (suc k) x = ap (λ ys. t y ∷ ys) (map-slice_set xs k x)

    seen-set_left : (xs : List X) (p k : ℕ) (x : X) → k < p → seen t p (slice_set xs k x) ≡ slice_set (seen t p xs) k x
    seen-set_left xs zero k x lt = absurd (omega arith)
    seen-set_left [] (suc p) k x lt = refl
    seen-set_left (y ∷ xs) (suc p) zero x lt = refl
    seen-set_left (y ∷ xs) (suc p) (suc k) x lt = ap (λ ys. y ∷ ys) (seen-set_left xs p k x (omega arith))

    seen-set_right : (xs : List X) (p k : ℕ) (x : X) → p ≤ k → seen t p (slice_set xs k x) ≡ slice_set (seen t p xs) k (t x)
    seen-set_right xs zero k x le = map-slice_set xs k x
    seen-set_right [] (suc p) k x le = refl
    seen-set_right (y ∷ xs) (suc p) zero x le = absurd (omega arith)
    seen-set_right (y ∷ xs) (suc p) (suc k) x le = ap (λ ys. y ∷ ys) (seen-set_right xs p k x (omega arith))

-- a record is set where it is
module _ (pulses k : ℕ) (r : Record) (g h : GapView Record) (set : h ≡ gap_view (slice_set g.items k r) g.place g.capacity) where
  pub shown-set_left : k < g.place → shown pulses h ≡ slice_set (shown pulses g) k r
  shown-set_left lt = ap (shown pulses) set ∙ seen-set_left (turned pulses) g.items g.place k r lt

  pub shown-set_right : (found : Record) → g.place ≤ k → turned pulses r ≡ found → shown pulses h ≡ slice_set (shown pulses g) k found
  shown-set_right found le is =
      ap (shown pulses) set ∙ (seen-set_right (turned pulses) g.items g.place k r le ∙ ap (slice_set (shown pulses g) k) is)

-- a later record
pub begins_at : (last : ℕ) (rs : List Record) (k : ℕ) (r : Record) → slice_get rs k ≡ Some r → last < r.marker → BeginsAfter last (drop k rs)
begins_at last rs k r there lt = subst (BeginsAfter last) (sym (drop-item rs k r there)) lt

-- the last of the first records is set
module _ (xs : List Record) (k count : ℕ) (r : Record) (at : k + 1 ≡ count) (there : slice_get xs k ≡ Some r) where
  pub first-last : take count xs ≡ take k xs ++ r ∷ []
  first-last = ap (λ n. take n xs) (sym at) ∙ take-item xs k r there

  pub first-set : (t : Record) → slice_set xs k t ≡ (take k xs ++ t ∷ []) ++ drop count xs
  first-set t =
      set-parts xs k r t there
      ∙ (ap (λ n. take k xs ++ t ∷ drop n xs) (sym (add-one k) ∙ at)
      ∙ sym (append_assoc (take k xs) (t ∷ []) (drop count xs)))
