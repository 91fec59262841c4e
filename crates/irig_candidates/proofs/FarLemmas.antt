-- Where a time is in its year, by where others are.
use Rattle.std.proofs.Common.{◌≡◌, ℕ, ◌+◌, ◌%◌, sym, ap, ◌∙◌}
use Rattle.std.proofs.Math.Nat.{add-mod-mod, mod-add-mod}

-- times in the year instead of both
pub mod-both : (year a b : ℕ) → (a % year + b % year) % year ≡ (a + b) % year
mod-both year a b = add-mod-mod (a % year) b year ∙ mod-add-mod a year b

-- the same with a third number
pub mod-three : (year a b more : ℕ) → (a % year + b % year + more) % year ≡ (a + b + more) % year
mod-three year a b more =
    sym (mod-add-mod (a % year + b % year) year more) ∙ ap (λ n. (n + more) % year) (mod-both year a b) ∙ mod-add-mod (a + b) year more
