use Rattle.irig_disk.specs.Put.{last_mode}
use Rattle.irig_disk.proofs.Steps.{stuck}
use Rattle.irig_disk.proofs.new_text.place.Goals as goal

pub returns-in-Ok-clause-ok : goal.returns-in-Ok-clause-ok
returns-in-Ok-clause-ok g c told start text w =
    c.rename_synced.ensures.ok told (last_mode g.F.Folder.usual_mode c.args.new.now.mode) start text (c.in-Ok.ensures.ok told _ _ start text w)

pub returns-in-Ok-clause-err : goal.returns-in-Ok-clause-err
returns-in-Ok-clause-err g c told start text w =
    c.rename_synced.ensures.err told (last_mode g.F.Folder.usual_mode c.args.new.now.mode) start text (c.in-Ok.ensures.ok told _ _ start text w)

pub returns-in-Err-clause-err : goal.returns-in-Err-clause-err
returns-in-Err-clause-err g c told start text w =
    stuck _ _ _ _ _ _ (c.in-Err.ensures.err told _ _ start text w)
