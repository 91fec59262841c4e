use Rattle.irig_guarding.proofs.{DropLemmas.group_held, DropLemmas.group_stopped, RepairLemmas.begun_so}
use Rattle.irig_guarding.proofs.mending.keep_group_if_safe.Goals as goal

pub returns-in-Err-obey_inner_lines-clause-drops : goal.returns-in-Err-obey_inner_lines-clause-drops
returns-in-Err-obey_inner_lines-clause-drops c = λ first last begins ends.
    group_stopped c.args.opened.now c.args.before.now c.args.session.now c.begin.new.self first last _ _ begins ends
    (begun_so c.args.session.now c.begin.new.self _ c.requires.closed c.begin.ensures.step) c.in-Err-obey_inner_lines.ensures.stops

pub returns-in-Err-end_safely-clause-drops : goal.returns-in-Err-end_safely-clause-drops
returns-in-Err-end_safely-clause-drops c = λ first last begins ends.
    group_held c.args.opened.now c.args.before.now c.args.session.now c.begin.new.self c.obey_inner_lines.new.session first last _ _ begins ends
    (begun_so c.args.session.now c.begin.new.self _ c.requires.closed c.begin.ensures.step) c.in_default-obey_inner_lines.ensures.made
    c.in-Err-end_safely.ensures.holds
