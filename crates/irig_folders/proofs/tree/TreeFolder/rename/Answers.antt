use Rattle.std.proofs.Common.{rules, ◌≡◌, ◌++◌, string_bytes}
use Rattle.std.proofs.lemmas.Result.{on_ok_weaker, on_err_weaker}
use Rattle.irig_folders.proofs.Lifted.{moved, not_moved_or_stays}
use Rattle.irig_folders.proofs.tree.TreeFolder.rename.Goals as goal

pub returns-clause-ok : goal.returns-clause-ok
returns-clause-ok c told =
    let old_at : c.as_str-3.result.now ≡ string_bytes c.args.dir.now.front ++ c.args.«from».now = search rules in
    let new_at : c.as_str-4.result.now ≡ string_bytes c.args.dir.now.front ++ c.args.to.now = search rules in
    on_ok_weaker c.rename.result (λ s. moved c.args.self.now.layout _ _ _ _ s) (rw (old_at, new_at) at (c.rename.ensures.ok told))

pub returns-clause-err : goal.returns-clause-err
returns-clause-err c told =
    let old_at : c.as_str-3.result.now ≡ string_bytes c.args.dir.now.front ++ c.args.«from».now = search rules in
    let new_at : c.as_str-4.result.now ≡ string_bytes c.args.dir.now.front ++ c.args.to.now = search rules in
    on_err_weaker c.rename.result (λ s. not_moved_or_stays c.args.self.now.layout _ _ _ _ s) (rw (old_at, new_at) at (c.rename.ensures.err told))
