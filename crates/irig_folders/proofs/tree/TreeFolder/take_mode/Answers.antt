use Rattle.std.proofs.lemmas.Result.{on_ok_weaker, on_err_weaker}
use Rattle.irig_folders.proofs.Lifted.{changed, elapses, may_spoil}
use Rattle.irig_folders.proofs.tree.TreeFolder.take_mode.Goals as goal

pub returns-clause-ok : goal.returns-clause-ok
returns-clause-ok c told = on_ok_weaker c.take_mode.result (λ s. changed c.args.self.now.layout _ _ _ _ s) (c.take_mode.ensures.ok told)

pub returns-clause-err : goal.returns-clause-err
returns-clause-err c told = on_err_weaker c.take_mode.result (λ s. may_spoil c.args.self.now.layout _ _ _ s) (c.take_mode.ensures.err told)

pub returns-clause-time : goal.returns-clause-time
returns-clause-time c told = elapses c.args.self.now.layout _ _ (c.take_mode.ensures.time told)
