use Rattle.std.proofs.lemmas.Result.{on_ok_weaker}
use Rattle.irig_folders.proofs.LogSteps.{log_syncs}
use Rattle.irig_folders.proofs.memory_folder.MemoryFolder.sync_file.Goals as goal

pub returns-clause-ok : goal.returns-clause-ok
returns-clause-ok c told = on_ok_weaker c.add.result (λ grown. log_syncs _ _ _ (rw c.is_planned.ensures.calls at grown)) c.add.ensures.ok
