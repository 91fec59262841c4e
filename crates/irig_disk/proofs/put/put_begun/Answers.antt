use Rattle.std.proofs.Common.{◌++◌, refl, ap}
use Rattle.irig_disk.specs.Put.{first_mode, held}
use Rattle.irig_disk.proofs.{Results.either_way, Steps.called}
use Rattle.irig_disk.proofs.put.put_begun.Goals as goal

pub returns-in-Ok-clause-put : goal.returns-in-Ok-clause-put
returns-in-Ok-clause-put g c = rw c.in-Ok.is (λ told start so_far w.
    let same = c.append_all-written.ensures in
    let end = c.finish_or_give_up.ensures in
    let text = held g.F.Folder.usual_mode c.in-Ok.new.mode (so_far ++ g.T.Text.rest c.args.text.now) in
    let to_mode = ap (first_mode g.F.Folder.usual_mode) same.mode in
    either_way c.append_all-written.result (same.ok told) (same.err told) end.ok end.err
    (λ all ends. rw (same.dir, same.target, same.mode) at
    (ends told start _ (called _ _ _ _ _ _ _ _ _ _ _ (λ j. g.F.Folder.place (same.dir j) (same.beside j))
    (λ j. g.F.Folder.place (same.dir j) (same.target j)) same.file to_mode (all.still _ _ start so_far w))))
    (λ some ends. let spoilt = some.still _ _ start so_far w in
    rw (same.dir, same.target) at (ends told text _ start _ (called _ _ _ _ _ _ _ _ _ _ _ (λ j. g.F.Folder.place (same.dir j) (same.beside j))
    (λ j. g.F.Folder.place (same.dir j) (same.target j)) same.file refl spoilt.1))))
