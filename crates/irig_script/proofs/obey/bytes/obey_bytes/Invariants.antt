use Rattle.std.proofs.Common.{List, ℕ, take, false, ◌++◌}
use Rattle.irig_script.specs.{Obey.Desk.desk_at, Obey.Progress.Holds, Obey.Progress.Obeyed}
use Rattle.irig_script.proofs.obey.bytes.obey_bytes.Given as goal

abbrev pub invariant-loop-byte : goal.invariant-loop-byte
invariant-loop-byte g l = record {
  since : g.S.Shelf.since l.fn.shelf l.shelf;
  so_far : (text : List ℕ) → Holds text l.fn.line → Obeyed false
      (desk_at l.fn.screen (g.S.Shelf.known l.fn.shelf))
      (desk_at l.screen (g.S.Shelf.known l.shelf))
      l.fn.status l.status l.fn.session l.session (text ++ take l.byte-index l.bytes) l.line;
}
