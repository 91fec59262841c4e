-- Frames with control functions that are not in the recording, counted one by one.
use Rattle.std.proofs.Common.{◌≡◌, ◌+◌, ◌≤◌, ◌==◌, ℕ, suc, Bool, true, false, List, [], ◌∷◌, Some, arith, drop, inl, inr, length, refl, slice_get, subst, sym}
use Rattle.std.proofs.lemmas.Bool.Decides.{nat_tests}
use Rattle.std.proofs.lemmas.List.{drop_all}
use Rattle.irig_edit.specs.State.State.{State}
use Rattle.irig_safety.specs.Original.{OriginalView}
use Rattle.irig_guarding.specs.Fillings.{AreFilled, AreFilledBy, IsWhole}
use Rattle.irig_guarding.specs.{Reading.seen_frames, declared.seen.Seen.Seen}
use Rattle.irig_safety.specs.declared.shown.Shown.{Shown}
use Rattle.irig_guarding.proofs.ControlLemmas.{drop_seen}

-- with the frames from a place on, that many more
abbrev pub CountsAll : OriginalView → State → List Seen → ℕ → ℕ → Type 0
CountsAll o s ys many i = (many ≤ i) × ((n : ℕ) → AreFilled o s (drop i ys) n → AreFilled o s ys (many + n))

module _ (o : OriginalView) (s : State) (ys : List Seen) where
  pub counts_none : CountsAll o s ys 0 0
  counts_none = (omega arith, λ n h. let same : 0 + n ≡ n = omega arith in subst (AreFilled o s ys) (sym same) h)

  pub counts_same : (many i : ℕ) (y : Seen) → slice_get ys i ≡ Some y → IsWhole o s y → CountsAll o s ys many i → CountsAll o s ys many (i + 1)
  counts_same many i y here whole all = let most = all.0 in (
    omega (arith, most),
    λ n h. all.1 n (subst (λ (l : List Seen). AreFilled o s l n) (sym (drop_seen ys i y here)) (inl (whole, h))),
  )

  pub counts_more : (many i : ℕ) (y : Seen) → slice_get ys i ≡ Some y → (IsWhole o s y → ⊥) → CountsAll o s ys many i → CountsAll o s ys (many + 1) (i + 1)
  counts_more many i y here other all = let most = all.0 in (
    omega (arith, most),
    λ n h.
        let one : many + suc n ≡ many + 1 + n = omega arith in
        subst (AreFilled o s ys) one
        (all.1 (suc n) (subst (λ (l : List Seen). AreFilled o s l (suc n)) (sym (drop_seen ys i y here)) (inr (other, (n, refl, h))))),
  )

  pub counts_end : (many i : ℕ) → length ys ≤ i → CountsAll o s ys many i → AreFilled o s ys many
  counts_end many i past all =
      let same : many + 0 ≡ many = omega arith in
      subst (AreFilled o s ys) same (all.1 0 (subst (λ (l : List Seen). AreFilled o s l 0) (sym (drop_all i ys past)) refl))

-- whether they are counted
is_none : (n : ℕ) (r : Bool) → r ≡ (n == 0) → r ≡ true → n ≡ 0
is_none n r is t = grind (arith, nat_tests)

pub moved_none : (o : OriginalView) (s : State) (moved : Bool) (frames : List Shown) → moved ≡ true → AreFilledBy moved frames o s 0
moved_none o s true frames is = refl
moved_none o s false frames is = absurd (cc)

pub fine_none : (o : OriginalView) (s : State) (moved : Bool) (frames : List Shown) (r : Bool) → r ≡ (length frames == 0) → r ≡ true
    → AreFilledBy moved frames o s 0
fine_none o s true frames r e is = refl
fine_none o s false [] r e is = refl
fine_none o s false (x ∷ frames) r e is = let bad = is_none (suc (length frames)) r e is in absurd (omega (arith, bad))

pub counted_by : (o : OriginalView) (s : State) (moved : Bool) (frames : List Shown) (r : Bool) (n : ℕ) → moved ≡ false → r ≡ (length frames == 0)
    → r ≡ false → AreFilled o s (seen_frames s) n → AreFilledBy moved frames o s n
counted_by o s true frames r n m e is h = absurd (cc)
counted_by o s false [] r n m e is h = absurd (cc)
counted_by o s false (x ∷ frames) r n m e is h = h
