use Rattle.std.proofs.Common.{arith}
use Rattle.irig_telling.proofs.told.told_at.Goals as goal

pub sure_below-requires-clause-there : goal.sure_below-requires-clause-there
sure_below-requires-clause-there c = omega (arith, c.requires.same.1, c.requires.there)
