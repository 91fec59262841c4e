use Rattle.std.proofs.lemmas.Result.{on_ok_weaker, on_err_weaker}
use Rattle.irig_folders.proofs.Lifted.{elapses, stays, synced_names}
use Rattle.irig_folders.proofs.tree.TreeFolder.sync_names.Goals as goal

pub returns-clause-ok : goal.returns-clause-ok
returns-clause-ok c told = on_ok_weaker c.sync_front.result (λ s. synced_names c.args.self.now.layout _ _ _ s)
    (rw c.as_str.ensures.value at c.sync_front.ensures.ok)

pub returns-clause-err : goal.returns-clause-err
returns-clause-err c told = on_err_weaker c.sync_front.result (λ s. stays c.args.self.now.layout _ _ s) c.sync_front.ensures.err

pub returns-clause-time : goal.returns-clause-time
returns-clause-time c told = elapses c.args.self.now.layout _ _ c.sync_front.ensures.time
