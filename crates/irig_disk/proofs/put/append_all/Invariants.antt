use Rattle.std.specs.Prelude.{IsTrue}
use Rattle.std.proofs.Common.{◌≡◌, ◌+◌, ◌++◌, ℕ, List, length}
use Rattle.irig_disk.specs.Parts.{Adds}
use Rattle.irig_disk.proofs.put.append_all.Given as goal

-- the bytes that are written so far, with those that are still to come
abbrev pub invariant-parts : goal.invariant-parts
invariant-parts g l = record {
  dir : l.new.dir.now ≡ l.fn.new.dir.now;
  beside : l.new.beside.now ≡ l.fn.new.beside.now;
  target : l.new.target.now ≡ l.fn.new.target.now;
  mode : l.new.mode ≡ l.fn.new.mode;
  file : g.F.Folder.number l.new.file ≡ g.F.Folder.number l.fn.new.file;
  so_far : List ℕ;
  whole : so_far ++ g.T.Text.rest l.text ≡ g.T.Text.rest l.fn.text;
  count : l.new.count ≡ l.fn.new.count + length so_far;
  adds : IsTrue g.F.Folder.is_told → Adds g.F.Folder.disk l.fn.folder l.folder (g.F.Folder.place l.fn.new.dir.now l.fn.new.beside.now)
      (g.F.Folder.number l.fn.new.file) so_far;
}

-- the bytes that are still to come
abbrev pub decreases-parts : goal.decreases-parts
decreases-parts g l = length (g.T.Text.rest l.text)
