use Rattle.std.proofs.Common.{◌≡◌, ◌≤◌, Option, length}
use Rattle.irig_vcd.specs.declared.journals.Journals.{Journals}
use Rattle.irig_vcd.specs.{Code.Reached.IsOn, Code.Scanned.Leads, Scan.Scan, declared.fault.VcdFault.VcdFault, declared.pending.Pending.Pending}
use Rattle.irig_vcd.proofs.short_way.follow_short.Given as goal

abbrev pub invariant-tokens : goal.invariant-tokens
invariant-tokens l = record {
  time : IsOn l.unit l.trace l.clock;
  fewer : length l.tokens ≤ length l.fn.tokens;
  extent : l.trace.extent ≡ l.fn.trace.extent;
  leads : (end : Scan × Option VcdFault) (journals : Journals) (pending : Pending)
      → Leads l.code l.unit end l.fn.trace l.fn.from journals pending l.fn.tokens
      → Leads l.code l.unit end l.trace l.clock journals pending l.tokens;
}

abbrev pub decreases-tokens : goal.decreases-tokens
decreases-tokens l = length l.tokens
