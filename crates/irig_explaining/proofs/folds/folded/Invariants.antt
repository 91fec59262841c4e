use Rattle.std.proofs.Common.{◌≡◌, ◌++◌, ◌^◌, ◌≤◌, drop}
use Rattle.std.specs.List.{All}
use Rattle.irig_explaining.specs.Folds.{folded, folded_after}
use Rattle.irig_explaining.specs.Folds.{IsFar}
use Rattle.irig_explaining.proofs.folds.folded.Given as goal

-- those so far, and those that follow
abbrev pub invariant-loop-pulse : goal.invariant-loop-pulse
invariant-loop-pulse l = record {
  exact : l.distances.items ++ folded_after l.fn.nominal l.before (drop l.pulse-index l.pulses) ≡ folded l.fn.nominal l.pulses;
  far : All IsFar l.distances.items;
  early : l.before ≤ 2 ^ 40;
}
