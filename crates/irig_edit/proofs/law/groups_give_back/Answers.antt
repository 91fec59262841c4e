use Rattle.irig_edit.proofs.SessionLemmas.GroupLaws.{abort_back, end_once}
use Rattle.irig_edit.proofs.law.groups_give_back.Goals as goal

pub returns-clause-abort : goal.returns-clause-abort
returns-clause-abort c = abort_back

pub returns-clause-end : goal.returns-clause-end
returns-clause-end c = end_once
