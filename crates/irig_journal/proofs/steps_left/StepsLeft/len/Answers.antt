use Rattle.std.proofs.Common.{length, ap, sym, ◌∙◌}
use Rattle.irig_journal.proofs.HeldLemmas.{length-shown}
use Rattle.irig_journal.proofs.steps_left.StepsLeft.len.Goals as goal

pub returns : goal.returns
returns g c =
    let s = c.self.inside in
    sym (length-shown s.from_oldest s.changes.now s.entries.now) ∙ ap length c.self.view_is
