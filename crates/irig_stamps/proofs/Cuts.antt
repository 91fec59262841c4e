-- A text cut at a byte.
use Rattle.std.proofs.Common.{◌≡◌, ℕ, ◌++◌, List, take, drop}
use Rattle.irig_stamps.specs.{Columns.before, Columns.onward, declared.cutting.Until.Until}

-- how far a text is cut
abbrev pub IsCut : Until → List ℕ → ℕ → Type 0
IsCut until s i = (before until s ≡ take i s ++ before until (drop i s)) × (onward until s ≡ onward until (drop i s))
