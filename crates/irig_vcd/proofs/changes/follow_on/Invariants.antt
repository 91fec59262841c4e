use Rattle.std.proofs.Common.{◌≡◌, Option, length}
use Rattle.irig_vcd.specs.{Code.Reached.IsOn, Code.Scanned.Leads, Scan.Scan, declared.fault.VcdFault.VcdFault}
use Rattle.irig_vcd.proofs.changes.follow_on.Given as goal

abbrev pub invariant-tokens : goal.invariant-tokens
invariant-tokens l = record {
  time : IsOn l.unit l.trace l.clock;
  extent : l.trace.extent ≡ l.fn.trace.extent;
  leads : (end : Scan × Option VcdFault) → Leads l.code l.unit end l.fn.trace l.fn.from l.fn.journals l.fn.pending l.fn.tokens
      → Leads l.code l.unit end l.trace l.clock l.journals l.pending l.tokens;
}

abbrev pub decreases-tokens : goal.decreases-tokens
decreases-tokens l = length l.tokens
