use Rattle.std.proofs.Common.{ap, refl}
use Rattle.irig_edit.specs.State.State.{State}
use Rattle.irig_guarding.proofs.{DropLemmas.line_stopped, DropLemmas.line_swayed, RepairLemmas.printed_repair, UndoneLemmas.undone_work}
use Rattle.irig_guarding.proofs.mending.keep_edit_if_safe.Goals as goal

pub returns-in-Err-clause-drops : goal.returns-in-Err-clause-drops
returns-in-Err-clause-drops c = λ line asks. line_stopped c.args.opened.now c.args.before.now _ line _ (c.in-Err.ensures.stops line asks)

pub returns-in-Err-clause-undone : goal.returns-in-Err-clause-undone
returns-in-Err-clause-undone c = undone_work _ _ c.in-Err.ensures.unmade

pub returns-in-Err-check-clause-drops : goal.returns-in-Err-check-clause-drops
returns-in-Err-check-clause-drops c = λ line asks.
    line_swayed c.args.opened.now c.args.before.now c.args.session.now c.obey_edit.new.session line _ (
      c.obey_edit.new.session,
      (c.args.command, asks, printed_repair c.args.command c.requires.one, c.in_default.ensures.made),
      refl,
    ) c.in-Err-check.ensures.sways

pub returns-in-Err-check-clause-undone : goal.returns-in-Err-check-clause-undone
returns-in-Err-check-clause-undone c = c.undo_for_good.ensures c.args.command c.args.session.now c.requires.one c.requires.closed c.in_default.ensures.made

pub returns-in-Err-check-clause-format : goal.returns-in-Err-check-clause-format
returns-in-Err-check-clause-format c =
    ap (λ (s : State). s.format)
    (c.undo_for_good.ensures c.args.command c.args.session.now c.requires.one c.requires.closed c.in_default.ensures.made).same.state
