use Rattle.std.proofs.Common.{◌+◌, ◌-◌, ℕ, List, drop, take}
use Rattle.std.specs.List.{AllByRecursion}
use Rattle.irig_guarding.specs.{Repair.texts, Cutting.IsClosing}
use Rattle.irig_guarding.proofs.cutting.repair_end.Given as goal

abbrev pub invariant-loop-place : goal.invariant-loop-place
invariant-loop-place l = AllByRecursion (λ (line : List ℕ). IsClosing line → ⊥) (texts (take (l.place - (l.at + 1)) (drop (l.at + 1) l.lines)))
