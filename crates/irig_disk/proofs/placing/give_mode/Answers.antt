use Rattle.irig_disk.proofs.Steps.{took_mode, took_none}
use Rattle.irig_disk.proofs.placing.give_mode.Goals as goal

pub returns-in-Ok-clause-ok : goal.returns-in-Ok-clause-ok
returns-in-Ok-clause-ok g c told beside target start text w =
    rw c.in-Some.is (took_mode _ _ _ _ _ _ _ _ text w (c.in-Ok.ensures.ok told) (c.take_mode.ensures.time told))

pub returns-clause-err : goal.returns-clause-err
returns-clause-err g c told beside target start text w =
    took_none _ _ _ _ _ _ _ text w (c.in-Err.ensures.err told) (c.take_mode.ensures.time told)
