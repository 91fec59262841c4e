use Rattle.irig_guarding.proofs.guarding.guard_once.Goals as goal

pub returns-clause-reaches : goal.returns-clause-reaches
returns-clause-reaches c = c.in_ok-status.ensures.stands

pub returns-clause-tried : goal.returns-clause-tried
returns-clause-tried c = c.in_ok-status.ensures.tried

pub returns-clause-kept : goal.returns-clause-kept
returns-clause-kept c = c.in_ok-status.ensures.kept
