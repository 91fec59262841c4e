use Rattle.std.proofs.Common.{refl, arith}
use Rattle.irig_files.proofs.{PutsAt.texts_at-put, Replacing.goes_once}
use Rattle.irig_files.proofs.file_shelf.FileShelfShelf.put.Goals as goal

pub returns-in-Ok-clause-ok : goal.returns-in-Ok-clause-ok
returns-in-Ok-clause-ok g c = record {
  put = rw c.in-Ok.is at (texts_at-put g.D.Disk.is_told (g.D.Disk.disk c.args.self.now.disk.now) (g.D.Disk.disk c.put.new.self) c.args.self.now.path.now
      (g.T.Text.rest c.args.text.now) c.put.result g.D.Disk.usual_mode c.put.ensures.put);
  failed = omega arith;
  label = refl;
}

pub returns-in-Err-clause-err : goal.returns-in-Err-clause-err
returns-in-Err-clause-err g c = record {
  put = rw c.in-Err.is at (texts_at-put g.D.Disk.is_told (g.D.Disk.disk c.args.self.now.disk.now) (g.D.Disk.disk c.put.new.self) c.args.self.now.path.now
      (g.T.Text.rest c.args.text.now) c.put.result g.D.Disk.usual_mode c.put.ensures.put);
  failed = omega arith;
  label = refl;
}

pub returns-in-Ok-clause-since : goal.returns-in-Ok-clause-since
returns-in-Ok-clause-since g c = (
  (refl, c.put.ensures.still),
  λ told.
      goes_once _ _ _ c.args.self.now.path.now _ c.put.result (g.met.D.Disk.counts_now _) (g.met.D.Disk.only_now _) (g.met.D.Disk.only_now _) refl
      (c.put.ensures.put told),
)

pub returns-in-Err-clause-since : goal.returns-in-Err-clause-since
returns-in-Err-clause-since g c = (
  (refl, c.put.ensures.still),
  λ told.
      goes_once _ _ _ c.args.self.now.path.now _ c.put.result (g.met.D.Disk.counts_now _) (g.met.D.Disk.only_now _) (g.met.D.Disk.only_now _) refl
      (c.put.ensures.put told),
)
