use Rattle.std.proofs.Common.{rules, ◌≡◌, ◌∙◌, sym, Some}
use Rattle.std.specs.Path.{path_buf_bytes, path_file_name}
use Rattle.irig_files.proofs.Taking.{puts_text}
use Rattle.irig_files.proofs.put_file.replace.Goals as goal

pub returns-clause-put : goal.returns-clause-put
returns-clause-put g c told path leads other takes =
    let named : path_file_name (path_buf_bytes c.args.room.now.target) ≡ Some c.in-Some.name.now = search rules in
    let at : (g.C.Folder.disk c.args.system.now).paths (path_buf_bytes c.args.room.now.target)
    ≡ Some (g.C.Folder.place c.open_folder.new.dir c.in-Some.name.now) =
    c.in-Ok-open_folder.ensures told (path_buf_bytes c.args.room.now.target) c.in-Some.name.now (search rules) named leads.no_link
    (λ o. other (leads.other o)) in
    puts_text _ _ _ _ path _ c.args.mode _ c.write_whole.result c.whole.result (sym leads.same ∙ at) takes
    c.whole.ensures.ok c.whole.ensures.err (c.write_whole.ensures.put told)
