use Rattle.std.proofs.Common.{rules, ◌≡◌, ◌∙◌, ◌++◌, ap, string_bytes, true}
use Rattle.std.specs.Prelude.{is_none, vec_len}
use Rattle.irig_folders.specs.Places.{other_in}
use Rattle.irig_folders.proofs.Lifted.{makes, none_is}
use Rattle.irig_folders.proofs.tree.TreeFolder.make.Goals as goal

pub returns-clause-done : goal.returns-clause-done
returns-clause-done c told =
    let at : c.as_str-2.result.now ≡ string_bytes c.args.dir.now.front ++ c.args.name.now = search rules in
    let regular : is_none (other_in c.args.self.now.layout.others.items (vec_len c.args.self.now.memory.calls)) ≡ true = search rules in
    makes c.args.self.now.layout _ _ (λ file. file.number) _ _ c.make_new.result
    (λ file is. ap (other_in c.args.self.now.layout.others.items) (rw is at c.make_new.ensures.number) ∙ none_is _ regular)
    (rw at at c.make_new.ensures.done)
