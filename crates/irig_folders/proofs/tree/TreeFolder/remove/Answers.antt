use Rattle.std.proofs.Common.{rules, ◌≡◌, ◌++◌, string_bytes}
use Rattle.std.proofs.lemmas.Result.{on_ok_weaker, on_err_weaker}
use Rattle.irig_folders.proofs.Lifted.{not_removed, removed}
use Rattle.irig_folders.proofs.tree.TreeFolder.remove.Goals as goal

pub returns-clause-ok : goal.returns-clause-ok
returns-clause-ok c told =
    let at : c.as_str-2.result.now ≡ string_bytes c.args.dir.now.front ++ c.args.name.now = search rules in
    on_ok_weaker c.remove.result (λ s. removed c.args.self.now.layout _ _ _ s) (rw at at (c.remove.ensures.ok told))

pub returns-clause-err : goal.returns-clause-err
returns-clause-err c told =
    let at : c.as_str-2.result.now ≡ string_bytes c.args.dir.now.front ++ c.args.name.now = search rules in
    on_err_weaker c.remove.result (λ s. not_removed c.args.self.now.layout _ _ _ s) (rw at at (c.remove.ensures.err told))
