use Rattle.irig_guarding.proofs.GuardLemmas.{all_plain}
use Rattle.irig_guarding.proofs.printing.put_lines.Goals as goal

pub returns-in_err-put_line-clause-plain : goal.returns-in_err-put_line-clause-plain
returns-in_err-put_line-clause-plain c = all_plain c.args.lines.now

pub returns-clause-plain : goal.returns-clause-plain
returns-clause-plain c = all_plain c.args.lines.now
