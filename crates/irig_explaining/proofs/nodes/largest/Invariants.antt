use Rattle.std.proofs.Common.{◌≤◌, take}
use Rattle.std.specs.List.{All}
use Rattle.irig_explaining.proofs.nodes.largest.Given as goal

-- none so far is larger
abbrev pub invariant-loop-index : goal.invariant-loop-index
invariant-loop-index l = All (λ m. m ≤ l.most) (take l.index l.mosts)
