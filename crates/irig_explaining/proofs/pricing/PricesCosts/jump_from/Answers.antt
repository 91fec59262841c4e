use Rattle.std.proofs.Common.{sym}
use Rattle.irig_explaining.specs.Priced.{role_at}
use Rattle.irig_explaining.proofs.pricing.PricesCosts.jump_from.Goals as goal

pub returns : goal.returns
returns c = λ e of. c.jump.ensures e c.args.to.element (sym (c.role_of.ensures (role_at c.args.self.now e) of))
