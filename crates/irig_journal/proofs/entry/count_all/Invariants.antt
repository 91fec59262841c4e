use Rattle.std.proofs.Common.{◌≡◌, take}
use Rattle.irig_journal.specs.Sizes.{counts_of}
use Rattle.irig_journal.proofs.entry.count_all.Given as goal

-- the count so far
abbrev pub invariant-loop-entry : goal.invariant-loop-entry
invariant-loop-entry l = l.count ≡ counts_of (take l.entry-index l.entries)
