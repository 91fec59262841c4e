use Rattle.std.proofs.Common.{◌≡◌}
use Rattle.irig_explaining.specs.Priced.{role_at}
use Rattle.irig_explaining.proofs.Pruning.{jump_most}
use Rattle.irig_explaining.proofs.pricing.PricesCosts.most_from.Goals as goal

pub returns : goal.returns
returns c = λ e q f k of.
    let p = c.args.self.now in let r = c.args.rise in let d = c.dearer.result in
    let other : c.role_of.result ≡ role_at p e = c.role_of.ensures (role_at p e) of in
    jump_most p r c.args.this e q f k d
    (λ lt there. rw (c.role_at.ensures, other) at c.dearer.ensures.exact q lt there)
