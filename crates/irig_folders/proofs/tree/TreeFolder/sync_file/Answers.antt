use Rattle.std.proofs.lemmas.Result.{on_ok_weaker, on_err_weaker}
use Rattle.irig_folders.proofs.Lifted.{elapses, may_spoil, synced_file}
use Rattle.irig_folders.proofs.tree.TreeFolder.sync_file.Goals as goal

pub returns-clause-ok : goal.returns-clause-ok
returns-clause-ok c told = on_ok_weaker c.sync_file.result (λ s. synced_file c.args.self.now.layout _ _ _ s) (c.sync_file.ensures.ok told)

pub returns-clause-err : goal.returns-clause-err
returns-clause-err c told = on_err_weaker c.sync_file.result (λ s. may_spoil c.args.self.now.layout _ _ _ s) (c.sync_file.ensures.err told)

pub returns-clause-time : goal.returns-clause-time
returns-clause-time c told = elapses c.args.self.now.layout _ _ (c.sync_file.ensures.time told)
