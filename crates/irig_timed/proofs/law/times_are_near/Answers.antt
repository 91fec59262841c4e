use Rattle.irig_timed.proofs.NearMoments.{moments_are_near, times_are_near}
use Rattle.irig_timed.proofs.law.times_are_near.Goals as goal

pub returns-clause-near : goal.returns-clause-near
returns-clause-near c = times_are_near c.moments_are_true.ensures.moments

pub returns-clause-moments : goal.returns-clause-moments
returns-clause-moments c = moments_are_near (times_are_near c.moments_are_true.ensures.moments)
