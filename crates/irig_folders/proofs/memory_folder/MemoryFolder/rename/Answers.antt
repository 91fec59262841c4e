use Rattle.std.proofs.Common.{◌≡◌, rules}
use Rattle.std.proofs.lemmas.Result.{on_ok_weaker}
use Rattle.irig_folders.proofs.LogSteps.{log_moves}
use Rattle.irig_folders.proofs.memory_folder.MemoryFolder.rename.Goals as goal

pub returns-clause-ok : goal.returns-clause-ok
returns-clause-ok c told =
    let is_from : c.in_ok-old_name.old_name.items ≡ c.args.from.now = search rules in
    let is_to : c.in_ok-new_name.new_name.items ≡ c.args.to.now = search rules in
    on_ok_weaker c.add.result
    (λ grown. log_moves _ _ c.in_ok-old_name.old_name c.in_ok-new_name.new_name _ _ is_from is_to (rw c.is_planned.ensures.calls at grown))
    c.add.ensures.ok
