use Rattle.std.proofs.Common.{◌≡◌, ℕ, List, length}
use Rattle.std.specs.Io.KnownBytes.{Consumes}
use Rattle.irig_files.specs.Reads.{IsCounted, Takes}
use Rattle.irig_files.proofs.dump_file.take_all.Given as goal

-- what was read so far is taken in
abbrev pub invariant-loop : goal.invariant-loop
invariant-loop g l = record {
  part : length l.part ≡ length l.fn.part;
  taken : (some : List ℕ) × Takes some l.fn.dump l.dump × Consumes (g.R.Read.remaining l.fn.reader) (g.R.Read.remaining l.reader) some;
  counted : IsCounted l.dump;
  extent : l.dump.extent ≡ l.fn.dump.extent;
}
