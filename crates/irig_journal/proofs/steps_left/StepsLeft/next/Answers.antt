use Rattle.std.proofs.Common.{sym, ◌∙◌}
use Rattle.irig_journal.proofs.HeldLemmas.{shown_next}
use Rattle.irig_journal.proofs.steps_left.StepsLeft.next.Goals as goal

pub returns-clause-next : goal.returns-clause-next
returns-clause-next g c =
    let s = c.self.inside in
    let e = c.in_ok-entry.entry.now in
    let changes = c.changes_at_end.result in
    sym c.self.view_is
    ∙ shown_next s.from_oldest s.changes.now changes.0.now changes.1.now s.entries.now c.in_ok-entry.entries.now e c.step_with.result
    c.in_ok-entry.ensures c.changes_at_end.ensures.parts (c.changes_at_end.ensures.many ∙ c.count-count.ensures) c.self.invariant
    c.step_with.ensures.0 c.step_with.ensures.1 c.step_with.ensures.2
