use Rattle.irig_explaining.proofs.Pruning.{jump_to}
use Rattle.irig_explaining.proofs.pricing.PricesCosts.most_to.Goals as goal

pub returns : goal.returns
returns c = λ f r e k of. jump_to c.args.self.now r e c.args._rise c.args._this f k
