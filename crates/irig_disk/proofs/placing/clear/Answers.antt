use Rattle.irig_disk.proofs.Steps.{after_removal, freed_moments, may_remove}
use Rattle.irig_disk.proofs.placing.clear.Goals as goal

pub returns-clause-left : goal.returns-clause-left
returns-clause-left g c told start target text s =
    after_removal _ _ _ _ _ _ c.remove.result c.args.fault c.fault_after.result s (c.remove.ensures.ok told) (c.remove.ensures.err told)
    (c.remove.ensures.time told) c.fault_after.ensures

pub returns-clause-any_moment : goal.returns-clause-any_moment
returns-clause-any_moment g c told start target text s =
    freed_moments _ _ _ _ _ _ s (may_remove _ _ _ c.remove.result (c.remove.ensures.ok told) (c.remove.ensures.err told)) (c.remove.ensures.time told)
