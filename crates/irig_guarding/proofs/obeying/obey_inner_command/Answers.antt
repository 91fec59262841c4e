use Rattle.std.proofs.Common.{◌≡◌, ◌∙◌, true, false, sym}
use Rattle.irig_guarding.specs.RepairLines.{IsInner}
use Rattle.irig_guarding.proofs.DropLemmas.{beyond_result, not_for, not_inner, obeyed_result}
use Rattle.irig_guarding.proofs.obeying.obey_inner_command.Goals as goal

pub returns-then-is_edit-clause-made : goal.returns-then-is_edit-clause-made
returns-then-is_edit-clause-made c = λ line asks.
    obeyed_result c.obey_edit.result c.args.command line _ _ (c.is_edit.ensures.0 c.if-is_edit.true) asks c.obey_edit.ensures.made

pub returns-then-is_edit-clause-beyond : goal.returns-then-is_edit-clause-beyond
returns-then-is_edit-clause-beyond c =
    beyond_result c.obey_edit.result c.args.command _ _ (c.is_edit.ensures.0 c.if-is_edit.true) c.obey_edit.ensures.made c.obey_edit.ensures.unmade

pub returns-else-is_edit-clause-stops : goal.returns-else-is_edit-clause-stops
returns-else-is_edit-clause-stops c = λ line asks.
    not_for IsInner line c.args.command asks
    (not_inner c.args.command c.requires (λ is. let bad : true ≡ false = sym (c.is_edit.ensures.1 is) ∙ c.if-is_edit.false in cc))
