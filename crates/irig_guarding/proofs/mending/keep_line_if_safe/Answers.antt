use Rattle.std.proofs.Common.{◌≡◌, ◌∙◌, true, false, sym}
use Rattle.irig_guarding.specs.Repair.{IsRepair}
use Rattle.irig_guarding.proofs.DropLemmas.{line_no_repair, not_for}
use Rattle.irig_guarding.proofs.mending.keep_line_if_safe.Goals as goal

pub returns-else-is_edit-clause-drops : goal.returns-else-is_edit-clause-drops
returns-else-is_edit-clause-drops c = λ some.
    line_no_repair _ some (not_for IsRepair _ c.in-Some.command c.in-Some.ensures
    (λ is. let bad : true ≡ false = sym (c.is_edit.ensures.1 is) ∙ c.if-is_edit.false in cc))

pub returns-in-None-clause-drops : goal.returns-in-None-clause-drops
returns-in-None-clause-drops c = λ some. line_no_repair _ some (λ k. c.in-None.ensures k.0 k.1)
