use Rattle.std.proofs.Common.{◌≡◌, ◌-◌}
use Rattle.irig_law.specs.OfOne.{any_from, of_one}
use Rattle.irig_law.proofs.of_one.is_passed.Given as goal

abbrev pub invariant-loop-place : goal.invariant-loop-place
invariant-loop-place l = any_from (of_one l.format l.century l.chains l.one) l.from (l.to - l.from)
    ≡ any_from (of_one l.format l.century l.chains l.one) l.place (l.to - l.place)
