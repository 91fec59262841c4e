use Rattle.std.proofs.Common.{length, refl, ap, ◌-◌, ◌%◌}
use Rattle.irig_explaining.proofs.Reaching.{Spare, from_beyond, jump_least}
use Rattle.irig_explaining.proofs.pricing.PricesCosts.reach_from.Goals as goal

pub returns-clause-others : goal.returns-clause-others
returns-clause-others c = λ f k off.
    let p = c.args.self.now in let size = length p.roles.now in let r = c.args.from.rise in let q = c.args.later in
    let alone : Spare p r q c.spare.result = rw c.gone-gone.ensures.exact at c.spare.ensures.near in
    jump_least p r c.args.from.element q f k
    (from_beyond p r c.args.from.element q f _ refl refl refl (ap (λ n. size - n % size) c.gone-gone.ensures.exact) c.spare.ensures.few alone off)
