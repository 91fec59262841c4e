-- Loose pulses and what is in their places, one by one.
use Rattle.std.proofs.Common.{◌≡◌, ◌+◌, ◌≤◌, ◌||◌, ℕ, suc, Bool, true, false, List, [], ◌∷◌, Some, add-one, ap, drop, drop-cons, length, refl, slice_get, subst, sym, ◌∙◌, take}
use Rattle.std.proofs.Common.{get_or, inl, inr}
use Rattle.std.proofs.lemmas.List.{drop_all, take_all}
use Rattle.std.proofs.lemmas.List.Folds.{list_any_at, list_any_more}
use Rattle.std.proofs.lemmas.Option.{get_or_from_slice_get, slice_get_within}
use Rattle.irig_codes.specs.Format.{FormatView}
use Rattle.irig_recording.specs.declared.pulse.Pulse.{Pulse}
use Rattle.irig_edit.specs.State.State.{State}
use Rattle.irig_safety.specs.InStep.{has_place, is_in_place}
use Rattle.irig_safety.specs.declared.fault.Fault.{Fault}
use Rattle.irig_safety.specs.declared.fault.Fault.TheVariants.{Removed}
use Rattle.irig_guarding.specs.Steps.{AreInPlace, GoneFrom, HasPlace}

-- what is found of the pulse at a place
place_at : (f g : FormatView) (ps : List Pulse) (i t : ℕ) (p : Pulse) (r so : Bool) → g ≡ f → slice_get ps i ≡ Some p → r ≡ is_in_place g p t → r ≡ so
    → is_in_place f (get_or ps i p) t ≡ so
place_at f g ps i t p r so same here is e =
    ap (λ (q : Pulse). is_in_place f q t) (get_or_from_slice_get ps i p p here)
    ∙ (ap (λ (x : FormatView). is_in_place x p t) (sym same) ∙ (sym is ∙ e))

-- it is in the place
pub place_there : (f g : FormatView) (ps : List Pulse) (i t : ℕ) (p : Pulse) (r : Bool) → g ≡ f → slice_get ps i ≡ Some p → r ≡ is_in_place g p t → r ≡ true
    → has_place f ps t ≡ true
place_there f g ps i t p r same here is so =
    list_any_at (λ q. is_in_place f q t) ps i p (slice_get_within ps i p here) (place_at f g ps i t p r true same here is so)

-- neither it nor those before it are
pub place_more : (f g : FormatView) (ps : List Pulse) (i j t : ℕ) (p : Pulse) (r : Bool) → g ≡ f → j ≡ i → slice_get ps j ≡ Some p
    → r ≡ is_in_place g p t → r ≡ false
    → has_place f (take i ps) t ≡ false → has_place f (take (i + 1) ps) t ≡ false
place_more f g ps i j t p r same at here is not h =
    let there : slice_get ps i ≡ Some p = ap (slice_get ps) (sym at) ∙ here in
    let one = place_at f g ps i t p r false same there is not in
    list_any_more (λ q. is_in_place f q t) ps i p (slice_get_within ps i p there) ∙ (λ k. h k || one k)

-- none is
pub place_none : (f : FormatView) (ps : List Pulse) (i t : ℕ) → length ps ≤ i → has_place f (take i ps) t ≡ false → false ≡ has_place f ps t
place_none f ps i t past h = sym (ap (λ l. has_place f l t) (sym (take_all i ps past)) ∙ h)

-- what is left of a search for the first that is gone
abbrev pub InPlaceAll : State → List ℕ → ℕ → Type 0
InPlaceAll s times i = (AreInPlace s (drop i times) → AreInPlace s times)
    × ((AreInPlace s times → AreInPlace s (drop i times))
    × ((why : Fault) → GoneFrom s (drop i times) why → GoneFrom s times why))

pub in_place_none : (s : State) (times : List ℕ) → InPlaceAll s times 0
in_place_none s [] = (λ h. h, (λ h. h, λ why h. h))
in_place_none s (t ∷ times) = (λ h. h, (λ h. h, λ why h. h))

drop_time : (xs : List ℕ) (i x : ℕ) → slice_get xs i ≡ Some x → drop i xs ≡ x ∷ drop (i + 1) xs
drop_time xs i x e = rw add-one
    (drop-cons xs i x (slice_get_within xs i x e) ∙ ap (λ y. y ∷ drop (suc i) xs) (get_or_from_slice_get xs i x x e))

pub in_place_more : (s : State) (times : List ℕ) (i t : ℕ) → slice_get times i ≡ Some t → HasPlace s t → InPlaceAll s times i → InPlaceAll s times (i + 1)
in_place_more s times i t here is h =
    let split = drop_time times i t here in (
      λ k. h.0 (subst (AreInPlace s) (sym split) (is, k)),
      (
        λ k. (subst (AreInPlace s) split (h.1.0 k)).1,
        λ why k. h.1.1 why (subst (λ (l : List ℕ). GoneFrom s l why) (sym split) (inr (is, k))),
      ),
    )

pub in_place_not : (s : State) (times : List ℕ) (i t : ℕ) → slice_get times i ≡ Some t → (HasPlace s t → ⊥) → InPlaceAll s times i
    → (AreInPlace s times → ⊥) × GoneFrom s times (Removed t)
in_place_not s times i t here other h =
    let split = drop_time times i t here in (
      λ k. other (subst (AreInPlace s) split (h.1.0 k)).0,
      h.1.1 (Removed t) (subst (λ (l : List ℕ). GoneFrom s l (Removed t)) (sym split) (inl (other, refl))),
    )

pub in_place_end : (s : State) (times : List ℕ) (i : ℕ) → length times ≤ i → InPlaceAll s times i → AreInPlace s times
in_place_end s times i past h = h.0 (subst (AreInPlace s) (sym (drop_all i times past)) tt)
