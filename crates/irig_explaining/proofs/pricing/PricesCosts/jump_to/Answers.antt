use Rattle.std.proofs.Common.{sym}
use Rattle.irig_explaining.proofs.pricing.PricesCosts.jump_to.Goals as goal

pub returns : goal.returns
returns c = λ f of. c.jump.ensures c.args.from.element f (sym c.role_at.ensures)
