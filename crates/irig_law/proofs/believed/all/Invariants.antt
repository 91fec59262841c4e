use Rattle.std.proofs.Common.{◌≡◌, ◌++◌, drop, map}
use Rattle.irig_law.specs.declared.fine.Fine.{Fine}
use Rattle.irig_law.proofs.believed.all.Given as goal

abbrev pub invariant-loop-place : goal.invariant-loop-place
invariant-loop-place l = record {
  left : l.list.items ++ map (λ (x : Fine). x.frame) (drop l.place l.frames) ≡ map (λ (x : Fine). x.frame) l.frames;
}
