use Rattle.irig_explaining.proofs.Least.{least_cost}
use Rattle.irig_explaining.proofs.explanation.cheapest_of.Goals as goal

pub returns-clause-least : goal.returns-clause-least
returns-clause-least g c =
    least_cost (g.C.Costs.price c.args.costs.now) c.args.rises c.args.nodes.now c.cheapest_end-end.result c.requires.table c.cheapest_end-end.ensures
