use Rattle.irig_timed.proofs.TrueMoments.{moments_are_true}
use Rattle.irig_timed.proofs.law.moments_are_true.Goals as goal

pub returns : goal.returns
returns c = (let laws = c.times_are_true.ensures in record { moments = moments_are_true laws.points laws.holes })
