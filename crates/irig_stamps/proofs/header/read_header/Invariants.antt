use Rattle.irig_stamps.specs.HeaderSteps.{Reading}
use Rattle.irig_stamps.proofs.header.read_header.Given as goal

abbrev pub invariant-loop-reads : goal.invariant-loop-reads
invariant-loop-reads g l = Reading l.settings (g.R.Read.remaining l.fn.lines) (g.R.Read.remaining l.lines) l.header
