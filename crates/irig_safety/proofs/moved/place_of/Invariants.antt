use Rattle.std.proofs.Common.{◌≡◌, drop}
use Rattle.irig_safety.specs.Moved.{from_time}
use Rattle.irig_safety.proofs.moved.place_of.Given as goal

abbrev pub invariant-loop-place : goal.invariant-loop-place
invariant-loop-place l = from_time l.frame (drop l.place l.new) ≡ from_time l.frame (drop l.from l.new)
