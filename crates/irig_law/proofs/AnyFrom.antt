-- Loops that look for one of some places, or sum over them.
use Rattle.std.proofs.Common.{◌≡◌, ◌<◌, ◌≤◌, ◌+◌, ◌-◌, ◌||◌, ℕ, suc, Bool, true, false, arith, ap, ◌∙◌}
use Rattle.irig_law.specs.OfOne.{any_from, sum_from}

module _ (test : ℕ → Bool) (k to : ℕ) where
  pub any-none : to ≤ k → any_from test k (to - k) ≡ false
  any-none le = let e : to - k ≡ 0 = omega (arith, le) in ap (λ n. any_from test k n) e

  any-more : k < to → any_from test k (to - k) ≡ test k || any_from test (k + 1) (to - (k + 1))
  any-more less = let e : to - k ≡ suc (to - (k + 1)) = omega (arith, less) in ap (λ n. any_from test k n) e

  pub any-here : k < to → test k ≡ true → any_from test k (to - k) ≡ true
  any-here less on = any-more less ∙ ap (λ b. b || any_from test (k + 1) (to - (k + 1))) on

  pub any-next : k < to → test k ≡ false → any_from test k (to - k) ≡ any_from test (k + 1) (to - (k + 1))
  any-next less off = any-more less ∙ ap (λ b. b || any_from test (k + 1) (to - (k + 1))) off

module _ (count : ℕ → ℕ) (k to : ℕ) where
  pub sum-none : to ≤ k → sum_from count k (to - k) ≡ 0
  sum-none le = let e : to - k ≡ 0 = omega (arith, le) in ap (λ n. sum_from count k n) e

  pub sum-more : k < to → sum_from count k (to - k) ≡ count k + sum_from count (k + 1) (to - (k + 1))
  sum-more less = let e : to - k ≡ suc (to - (k + 1)) = omega (arith, less) in ap (λ n. sum_from count k n) e
