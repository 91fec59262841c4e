use Rattle.std.proofs.Common.{◌≡◌, rules}
use Rattle.std.proofs.lemmas.Result.{on_ok_weaker}
use Rattle.irig_folders.proofs.LogSteps.{log_syncs_names}
use Rattle.irig_folders.proofs.memory.Memory.sync_front.Goals as goal

pub returns-clause-ok : goal.returns-clause-ok
returns-clause-ok c =
    let is : c.in_ok-kept.kept.items ≡ c.args.front.now = search rules in
    on_ok_weaker c.add.result (λ grown. log_syncs_names _ _ c.in_ok-kept.kept _ is (rw c.is_planned.ensures.calls at grown)) c.add.ensures.ok
