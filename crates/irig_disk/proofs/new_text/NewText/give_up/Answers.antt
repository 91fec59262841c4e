use Rattle.std.proofs.Common.{◌∙◌}
use Rattle.std.proofs.lemmas.Result.{on_ok_weaker, on_err_weaker}
use Rattle.irig_disk.proofs.Steps.{stuck, freed, given_up_moments, may_remove, not_freed}
use Rattle.irig_disk.proofs.new_text.NewText.give_up.Goals as goal

pub returns-clause-ok : goal.returns-clause-ok
returns-clause-ok g c told mode start text w =
    on_ok_weaker c.remove.result (λ did. freed _ _ _ _ _ _ (stuck _ _ _ _ _ (record { bytes = text; mode = 0 }) w.stands) did.may did)
    (c.remove.ensures.ok told)

pub returns-clause-err : goal.returns-clause-err
returns-clause-err g c told mode start text w =
    on_err_weaker c.remove.result (λ did. not_freed _ _ _ _ _ _ (stuck _ _ _ _ _ (record { bytes = text; mode = 0 }) w.stands) did.may)
    (c.remove.ensures.err told)

pub returns-clause-any_moment : goal.returns-clause-any_moment
returns-clause-any_moment g c told mode start text w =
    given_up_moments _ _ _ _ _ _ w.stands (may_remove _ _ _ c.remove.result (c.remove.ensures.ok told) (c.remove.ensures.err told)) (c.remove.ensures.time told)

pub returns-clause-rest : goal.returns-clause-rest
returns-clause-rest g c told mode start text w =
    let may = may_remove _ _ _ c.remove.result (c.remove.ensures.ok told) (c.remove.ensures.err told) in
    (may.log ∙ w.stands.log, may.paths _ w.stands.leads w.stands.regular ∙ w.stands.paths)
