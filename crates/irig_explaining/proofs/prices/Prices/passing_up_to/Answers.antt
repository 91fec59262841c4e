use Rattle.irig_explaining.proofs.prices.Prices.passing_up_to.Goals as goal

pub returns-then-is_far : goal.returns-then-is_far
returns-then-is_far c = λ role. c.is_far.ensures.least c.if-is_far.true role
