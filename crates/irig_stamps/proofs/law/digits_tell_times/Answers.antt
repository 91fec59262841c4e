use Rattle.irig_stamps.proofs.PrintedDigits.{calendar_tells, ordinal_tells, seconds_tell}
use Rattle.irig_stamps.proofs.law.digits_tell_times.Goals as goal

pub returns-clause-ordinal : goal.returns-clause-ordinal
returns-clause-ordinal c = ordinal_tells

pub returns-clause-calendar : goal.returns-clause-calendar
returns-clause-calendar c = calendar_tells

pub returns-clause-seconds : goal.returns-clause-seconds
returns-clause-seconds c = seconds_tell
