-- A number that is too great for its bits is a number.
use Rattle.std.proofs.Common.{◌≡◌, ◌^◌, ℕ, Option, Some, None, min, refl}
use Rattle.std.specs.Prelude.{is_some, option_map}

pub some_capped : (x : Option ℕ) → is_some (option_map (λ v. min v (2 ^ 120)) x) ≡ is_some x
some_capped None = refl
some_capped (Some v) = refl
