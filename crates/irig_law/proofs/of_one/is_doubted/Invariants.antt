use Rattle.std.proofs.Common.{◌≡◌, ◌-◌}
use Rattle.irig_law.specs.OfOne.{any_from, surrounds}
use Rattle.irig_law.proofs.of_one.is_doubted.Given as goal

abbrev pub invariant-loop-other : goal.invariant-loop-other
invariant-loop-other l = any_from (surrounds l.format l.century l.chains l.one) (l.one - 990) (l.end - (l.one - 990))
    ≡ any_from (surrounds l.format l.century l.chains l.one) l.other (l.end - l.other)
