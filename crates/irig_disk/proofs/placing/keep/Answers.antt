use Rattle.std.proofs.Common.{◌∙◌}
use Rattle.irig_disk.proofs.Steps.{stays_kept, stays_put, stays_moments, not_kept}
use Rattle.irig_disk.proofs.placing.keep.Goals as goal

pub returns-in-Ok-clause-ok : goal.returns-in-Ok-clause-ok
returns-in-Ok-clause-ok g c told start beside name text is p =
    stays_kept _ _ _ _ _ _ _ is p (c.in-Ok.ensures.ok told)

pub returns-in-Ok-clause-any_moment : goal.returns-in-Ok-clause-any_moment
returns-in-Ok-clause-any_moment g c told start beside name text is p =
    let synced = c.in-Ok.ensures.ok told in
    stays_moments _ _ _ _ _ _ p synced.seen synced.left synced.files (c.sync_names.ensures.time told)

pub returns-clause-err : goal.returns-clause-err
returns-clause-err g c told start beside name text is p =
    let stays = c.in-Err.ensures.err told in
    record {
      seen = (stays_put _ _ _ _ _ _ p stays.names.seen stays.names.left stays.files, stays.names.log ∙ p.log);
      log = not_kept _ _ _ _ _ _ p stays;
      paths = λ at. stays.names.paths ∙ p.paths at;
    }

pub returns-clause-any_moment : goal.returns-clause-any_moment
returns-clause-any_moment g c told start beside name text is p =
    let stays = c.in-Err.ensures.err told in
    stays_moments _ _ _ _ _ _ p stays.names.seen stays.names.left stays.files (c.sync_names.ensures.time told)
