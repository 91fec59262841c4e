use Rattle.std.proofs.Common.{Err, ap}
use Rattle.irig_disk.specs.declared.kept.Kept.{Kept}
use Rattle.irig_disk.proofs.Steps.{comes_to_its_end, comes_to_nothing}
use Rattle.irig_disk.proofs.put.finish_or_give_up.Goals as goal

pub returns-in-Ok-clause-ok : goal.returns-in-Ok-clause-ok
returns-in-Ok-clause-ok g c = rw c.in-Ok.is (λ told start text w.
    comes_to_its_end _ _ _ _ c.finish.result (c.finish.ensures.any_moment told start text w) (c.finish.ensures.ok told start text w)
    (c.finish.ensures.err told start text w))

pub returns-in-Err-clause-err : goal.returns-in-Err-clause-err
returns-in-Err-clause-err g c = rw c.in-Err.is (λ told text mode start so_far w.
    comes_to_nothing {K = Kept} _ _ _ text c.give_up.result c.in-Err.fault c.fault_after.result
    (c.give_up.ensures.any_moment told mode start so_far w)
    (c.give_up.ensures.ok told mode start so_far w) (c.give_up.ensures.err told mode start so_far w) (c.give_up.ensures.rest told mode start so_far w)
    c.fault_after.ensures)

pub returns-in-Err-clause-fault : goal.returns-in-Err-clause-fault
returns-in-Err-clause-fault g c = rw c.in-Err.is (c.give_up.result, ap Err c.fault_after.ensures)
