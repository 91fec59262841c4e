use Rattle.std.proofs.Common.{rules, ◌≡◌, ℕ, List, [], ap, subst, ⊎_elim}
use Rattle.std.proofs.lemmas.{Paths.path_join_absolute, Paths.path_join_relative, Bool.cases_eq}
use Rattle.std.specs.Path.{path_buf_bytes, path_join, slash}
use Rattle.std.specs.Prelude.{slice_index}
use Rattle.irig_files.proofs.links.follow_links.Goals as goal

-- a path in no folder
join_none : (path : List ℕ) → path_join [] path ≡ path
join_none path = ⊎_elim (λ is. path_join_absolute [] path is) (λ ne. path_join_relative [] path ne) (cases_eq (slice_index path 0) slash)

pub loop-init : goal.loop-init
loop-init g c =
    let at : path_buf_bytes c.push.new.self ≡ c.args.path.now = search (rules, join_none c.args.path.now) in
    record {
      same = λ told. ap (g.C.Folder.disk c.args.system.now).paths at;
      other = λ told. subst (g.C.FileSystem.is_other c.args.system.now) at;
    }
