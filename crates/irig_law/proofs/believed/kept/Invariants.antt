use Rattle.std.proofs.Common.{◌≡◌, ◌≤◌, ◌++◌, drop}
use Rattle.irig_law.specs.Believed.{is_true_at, kept, kept_from}
use Rattle.irig_law.proofs.believed.kept.Given as goal

abbrev pub invariant-loop-place : goal.invariant-loop-place
invariant-loop-place l = record {
  low : l.number ≤ l.place;
  left : l.list.items ++ kept_from l.format l.century (is_true_at l.right) l.number l.before (drop l.place l.frames)
      ≡ kept l.format l.century (is_true_at l.right) l.frames;
}
