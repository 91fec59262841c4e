use Rattle.irig_timed.proofs.SomeReason.{none_iff_reason, one_reason}
use Rattle.irig_timed.proofs.law.reasons_are_exact.Goals as goal

pub returns-clause-one : goal.returns-clause-one
returns-clause-one c = one_reason

pub returns-clause-none : goal.returns-clause-none
returns-clause-none c = none_iff_reason
