use Rattle.std.proofs.lemmas.Result.{on_ok_weaker, on_err_weaker}
use Rattle.irig_disk.proofs.Steps.{stuck_at_sync, stuck_at_rename, comes_to_its_place}
use Rattle.irig_disk.proofs.placing.rename_synced.Goals as goal

pub returns-in-Ok-clause-ok : goal.returns-in-Ok-clause-ok
returns-in-Ok-clause-ok g c told mode start text w =
    on_ok_weaker c.rename.result
    (λ moved. comes_to_its_place _ _ _ _ _ _ _ text _ w (c.in-Ok.ensures.ok told) (c.sync_file.ensures.time told) moved
    (c.rename.ensures.time told))
    (c.rename.ensures.ok told)

pub returns-in-Ok-clause-err : goal.returns-in-Ok-clause-err
returns-in-Ok-clause-err g c told mode start text w =
    on_err_weaker c.rename.result
    (λ not_moved. stuck_at_rename _ _ _ _ _ _ _ text _ w (c.in-Ok.ensures.ok told) (c.sync_file.ensures.time told) not_moved
    (c.rename.ensures.time told))
    (c.rename.ensures.err told)

pub returns-clause-err : goal.returns-clause-err
returns-clause-err g c told mode start text w =
    stuck_at_sync _ _ _ _ _ _ text _ _ w (c.in-Err.ensures.err told) (c.sync_file.ensures.time told)
