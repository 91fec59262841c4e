use Rattle.std.proofs.Common.{◌≡◌, ◌<◌, ℕ, true}
use Rattle.irig_safety.specs.MendedFunctions.{is_function_mended}
use Rattle.irig_safety.proofs.mended_functions.are_functions_mended.Given as goal

abbrev pub invariant-loop-function : goal.invariant-loop-function
invariant-loop-function l = (k : ℕ) → k < l.function → is_function_mended l.format l.others l.near.before l.former l.near.after l.frame k ≡ true
