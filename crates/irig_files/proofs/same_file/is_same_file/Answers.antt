use Rattle.std.proofs.Common.{◌∙◌, sym, rules, Some}
use Rattle.irig_files.proofs.Apart.{one_by_ids}
use Rattle.irig_files.specs.Apart.{HasId}
use Rattle.irig_files.proofs.same_file.is_same_file.Goals as goal

pub returns-in-Ok-Some-Ok-Some-clause-same : goal.returns-in-Ok-Some-Ok-Some-clause-same
returns-in-Ok-Some-Ok-Some-clause-same g c told same =
    let disk = g.C.Folder.disk c.args.system.now in
    let id_of = g.C.FileSystem.id_of c.args.system.now in
    let one : HasId disk id_of c.args.one.now (Some c.in-Ok-Some-Ok-Some.id) = search (rules, c.in-Ok-Some-Ok-Some.ensures told) in
    let other : HasId disk id_of c.args.other.now (Some c.in-Ok-Some-Ok-Some.other_id) = search (rules, c.in-Ok-Some-Ok-Some.ensures' told) in
    one_by_ids disk id_of c.args.one.now c.args.other.now c.in-Ok-Some-Ok-Some.id c.in-Ok-Some-Ok-Some.other_id
    (g.met.C.FileSystem.ids_differ c.args.system.now) one other (sym c.eq.ensures ∙ same)
