use Rattle.std.proofs.Common.{length, refl, ap, ◌-◌, ◌%◌}
use Rattle.irig_explaining.proofs.Reaching.{Spare, jump_least, to_beyond}
use Rattle.irig_explaining.proofs.pricing.PricesCosts.reach_to.Goals as goal

pub returns-clause-others : goal.returns-clause-others
returns-clause-others c = λ e k off.
    let p = c.args.self.now in let size = length p.roles.now in let r = c.args.rise in let q = c.args.to.rise in
    let alone : Spare p r q c.spare.result = rw c.gone-gone.ensures.exact at c.spare.ensures.near in
    jump_least p r e q c.args.to.element k
    (to_beyond p r e q c.args.to.element _ refl refl refl (ap (λ n. size - n % size) c.gone-gone.ensures.exact) c.spare.ensures.few alone off)
