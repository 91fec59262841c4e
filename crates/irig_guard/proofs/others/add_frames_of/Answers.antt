use Rattle.std.proofs.lemmas.Result.{IfErr-weaker}
use Rattle.irig_guard.proofs.OtherLemmas.{unusable_by_dump}
use Rattle.irig_guard.proofs.others.add_frames_of.Goals as goal

pub returns-in-Ok-clause-unusable : goal.returns-in-Ok-clause-unusable
returns-in-Ok-clause-unusable g c =
    let read = c.in-Ok.ensures.read in
    IfErr-weaker c.add_read.result _ _
    (λ why is. unusable_by_dump (g.D.Disk.held c.args.disk.now c.args.path.now) (g.D.Disk.unread c.args.disk.now c.args.path.now) read.source why read.whole
    (is read.source read.parts))
    c.add_read.ensures.unusable
