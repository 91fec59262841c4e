use Rattle.irig_script.specs.{Obey.Desk.desk_at, Obey.Reads.IsUnderway}
use Rattle.irig_script.proofs.obey.engine.run.Given as goal

abbrev pub invariant-loop-reads : goal.invariant-loop-reads
invariant-loop-reads g l = record {
  since : g.S.Shelf.since l.fn.shelf l.shelf;
  so_far : IsUnderway l.reads (g.R.Read.remaining l.fn.script) (g.R.Read.remaining l.script)
      (desk_at l.fn.screen (g.S.Shelf.known l.fn.shelf))
      (desk_at l.screen (g.S.Shelf.known l.shelf))
      l.status l.fn.session l.session l.line;
}
