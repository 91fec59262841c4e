use Rattle.std.specs.Prelude.{IsTrue}
use Rattle.irig_disk.specs.{NewNames.AllTaken, Writing.IsUnchanged}
use Rattle.irig_disk.proofs.beside.make_beside.Given as goal

abbrev pub invariant-loop-number : goal.invariant-loop-number
invariant-loop-number g l = record {
  same : IsTrue g.F.Folder.is_told → IsUnchanged (g.F.Folder.disk l.fn.folder) (g.F.Folder.disk l.folder);
  taken : IsTrue g.F.Folder.is_told → AllTaken (g.F.Folder.disk l.fn.folder) (g.F.Folder.place l.dir) l.stem l.target l.number;
}
