use Rattle.irig_stamps.proofs.TrueWords.{prints-true}
use Rattle.irig_stamps.proofs.law.printed_times_are_true.Goals as goal

pub returns : goal.returns
returns c = record { words = prints-true c.times_are_near.ensures.moments }
