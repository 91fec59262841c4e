-- One more step of a walk.
use Rattle.std.proofs.Common.{◌≡◌, ◌<◌, ◌≤◌, ◌-◌, ◌+◌, ℕ, suc, zero, Bool, arith, refl, ap, ◌∙◌}
use Rattle.irig_law.specs.Names.{moved, seen, seen_at, walk}
use Rattle.irig_law.specs.declared.clock.Clock.{Clock}
use Rattle.irig_law.specs.declared.names.{Seen.Seen, Walk.Walk}
use Rattle.irig_law.specs.declared.names.Seen.TheVariants.{Named, Astray, Unknown}

module _ (c : Clock) (rise : ℕ → ℕ) (runs : ℕ → Bool) where
  pub seen-next : (k : ℕ) (w : Walk) → 1 ≤ k → w ≡ walk c rise runs (k - 1) → seen_at c rise runs k w ≡ seen c rise runs k
  seen-next zero w some is = absurd (omega (arith, some))
  seen-next (suc m) w some is =
      let same : suc m - 1 ≡ m = omega arith in
      ap (λ w. seen_at c rise runs (suc m) w) (is ∙ ap (λ i. walk c rise runs i) same)

  pub walk-next : (k : ℕ) (w : Walk) (s : Seen) → 1 ≤ k → w ≡ walk c rise runs (k - 1) → s ≡ seen_at c rise runs k w
      → moved w k s ≡ walk c rise runs (k + 1 - 1)
  walk-next zero w s some is at = absurd (omega (arith, some))
  walk-next (suc m) w s some is at =
      let same : suc m - 1 ≡ m = omega arith in
      let next : suc m ≡ suc m + 1 - 1 = omega arith in
      ap (λ s. moved w (suc m) s) at
      ∙ (ap (λ w. moved w (suc m) (seen_at c rise runs (suc m) w)) (is ∙ ap (λ i. walk c rise runs i) same)
      ∙ ap (λ i. walk c rise runs i) next)

-- the walk is at a pulse that it has passed, and its element is no higher than the names
pub moved-last : (w : Walk) (k : ℕ) (s : Seen) → w.last < k → (moved w k s).last < k + 1
moved-last w k (Named e) low = omega arith
moved-last w k Astray low = omega (arith, low)
moved-last w k Unknown low = omega (arith, low)

pub moved-element : (w : Walk) (k most : ℕ) (s : Seen) → w.element ≤ most → ((e : ℕ) → s ≡ Named e → e ≤ most) → (moved w k s).element ≤ most
moved-element w k most (Named e) low named = named e refl
moved-element w k most Astray low named = low
moved-element w k most Unknown low named = low
