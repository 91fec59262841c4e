use Rattle.std.proofs.Common.{rules, ◌≡◌, Some}
use Rattle.std.specs.Path.{path_buf_bytes}
use Rattle.irig_folders.specs.Log.{leads_in}
use Rattle.irig_files.specs.Paths.{followed}
use Rattle.irig_folders.specs.{Places.over, Links.text_at}
use Rattle.irig_folders.specs.LinkLaws.{end_next}
use Rattle.irig_folders.proofs.tree_paths.+end_at.Goals as goal

pub returns-in_ok-next-in-Some-2 : goal.returns-in_ok-next-in-Some-2
returns-in_ok-next-in-Some-2 t c =
    let at : text_at c.args.tree.now.layout.folders.items (over c.args.tree.now.layout (leads_in c.args.tree.now.memory.calls.items))
    (path_buf_bytes c.args.path) ≡ Some c.in-Some-2.text.now = search rules in
    let next : path_buf_bytes c.in_ok-next-in-Some-2.next ≡ followed (path_buf_bytes c.args.path) c.in-Some-2.text.now = search rules in
    rw (next, end_next _ c.args.links _ _ at c.if-links-eq0.false) at c.end_at.ensures
