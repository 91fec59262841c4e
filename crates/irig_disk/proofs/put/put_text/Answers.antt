use Rattle.std.specs.Prelude.{IsTrue}
use Rattle.std.proofs.Common.{[], refl, ap, IfOk}
use Rattle.irig_disk.specs.{Parts.ComesTo, Put.first_mode, Put.held}
use Rattle.irig_disk.proofs.{Results.if_ok_by, Results.both_ok, Steps.called, Steps.comes_to_either, Steps.taken_at_first, put.put_text.Goals.After-name-1}
use Rattle.irig_disk.proofs.put.put_text.Given as given
use Rattle.irig_disk.proofs.put.put_text.Goals as goal

-- what a write that has its new file comes to
comes : (g : given.Over) (c : After-name-1 g) → IsTrue g.F.Folder.is_told → IfOk c.begin-begun.result
    (λ _. ComesTo (g.F.Folder.disk c.args.folder.now) (g.F.Folder.disk c.put_begun.new.folder) (g.F.Folder.place c.args.dir.now c.args.target.now)
    (held g.F.Folder.usual_mode c.args.mode (g.T.Text.rest c.args.text.now)) c.put_begun.result)
comes g c told =
    let new = c.begin-begun.ensures in
    let place = g.F.Folder.place in
    let both = both_ok c.begin-begun.result _ _ new.dir new.target in
    if_ok_by c.begin-begun.result both new.mode (new.ok told) c.put_begun.ensures.put
    (λ x same mode w ends. rw (same.0, same.1, mode) at (ends told c.args.folder.now []
    (called _ _ _ _ _ _ _ _ _ _ _ (λ j. place (same.0 j) x.beside.now) (λ j. place (same.0 j) (same.1 j)) refl
    (ap (first_mode g.F.Folder.usual_mode) mode) w)))

pub returns-clause-any_moment : goal.returns-clause-any_moment
returns-clause-any_moment g c told =
    (comes_to_either g.F.Folder.disk c.begin-begun.result c.put_begun.result _ _ _ _ _ (comes g c told)
    (c.begin-begun.ensures.err told) c.put_begun.ensures.err c.put_begun.ensures.same).0

pub returns-clause-ok : goal.returns-clause-ok
returns-clause-ok g c told =
    (comes_to_either g.F.Folder.disk c.begin-begun.result c.put_begun.result _ _ _ _ _ (comes g c told)
    (c.begin-begun.ensures.err told) c.put_begun.ensures.err c.put_begun.ensures.same).1

pub returns-clause-err : goal.returns-clause-err
returns-clause-err g c told =
    (comes_to_either g.F.Folder.disk c.begin-begun.result c.put_begun.result _ _ _ _ _ (comes g c told)
    (c.begin-begun.ensures.err told) c.put_begun.ensures.err c.put_begun.ensures.same).2

pub returns-clause-taken : goal.returns-clause-taken
returns-clause-taken g c told =
    taken_at_first c.begin-begun.result c.put_begun.result _ _ _ _ (comes g c told) (c.begin-begun.ensures.taken told) c.put_begun.ensures.err
