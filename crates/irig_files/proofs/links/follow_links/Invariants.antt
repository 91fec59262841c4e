use Rattle.std.proofs.Common.{◌≡◌}
use Rattle.std.specs.Prelude.{IsTrue}
use Rattle.std.specs.Path.{path_buf_bytes}
use Rattle.irig_files.proofs.links.follow_links.Given as goal

-- the links so far lead here
abbrev pub invariant-loop : goal.invariant-loop
invariant-loop g l = record {
  same : IsTrue g.C.Folder.is_told → (g.C.Folder.disk l.system).paths (path_buf_bytes l.target) ≡ (g.C.Folder.disk l.system).paths l.path;
  other : IsTrue g.C.Folder.is_told → g.C.FileSystem.is_other l.system (path_buf_bytes l.target) → g.C.FileSystem.is_other l.system l.path;
}
