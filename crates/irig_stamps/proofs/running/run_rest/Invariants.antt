use Rattle.std.proofs.Common.{◌≡◌, [], ℕ, List, Option}
use Rattle.irig_stamps.specs.Steps.{Underway}
use Rattle.irig_stamps.proofs.running.run_rest.Given as goal

abbrev pub invariant-loop-reads : goal.invariant-loop-reads
invariant-loop-reads g l = record {
  underway : (start from : Option (List ℕ))
      → Underway l.format l.fn.pulses.track.pulses l.settings start (g.R.Read.remaining l.fn.lines) from (g.W.Write.contents l.fn.out)
      l.fn.state.line.items l.fn.state.count l.fn.state.tally
      → Underway l.format l.fn.pulses.track.pulses l.settings start (g.R.Read.remaining l.lines) from (g.W.Write.contents l.out)
      l.state.line.items l.state.count l.state.tally;
  empty : l.text.items ≡ [];
  track : l.pulses.track ≡ l.fn.pulses.track;
}
