use Rattle.std.proofs.Common.{◌≡◌, ◌+◌, ◌-◌}
use Rattle.irig_law.specs.OfOne.{any_from, is_beyond}
use Rattle.irig_law.proofs.of_one.reaches_beyond.Given as goal

abbrev pub invariant-loop-far : goal.invariant-loop-far
invariant-loop-far l = any_from (is_beyond l.format l.century l.chains l.one l.other) (l.other + 1) (l.end - (l.other + 1))
    ≡ any_from (is_beyond l.format l.century l.chains l.one l.other) l.far (l.end - l.far)
