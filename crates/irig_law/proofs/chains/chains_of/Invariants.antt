use Rattle.std.proofs.Common.{◌≡◌, ◌≤◌, ◌++◌, drop}
use Rattle.irig_law.specs.Chains.{chains_from, chains_of}
use Rattle.irig_law.proofs.chains.chains_of.Given as goal

abbrev pub invariant-loop-place : goal.invariant-loop-place
invariant-loop-place l = record {
  many : l.chain.many ≤ l.place;
  left : l.list.items ++ chains_from l.format l.century l.chain (drop l.place l.frames) ≡ chains_of l.format l.century l.frames;
}
