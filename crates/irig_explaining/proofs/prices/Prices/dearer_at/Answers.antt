use Rattle.std.proofs.Common.{◌+◌, ◌≤◌, subst}
use Rattle.irig_explaining.specs.Wires.{element}
use Rattle.irig_explaining.proofs.prices.Prices.dearer_at.Goals as goal

pub returns-clause-exact : goal.returns-clause-exact
returns-clause-exact c = λ one.
    let p = c.args.self.now in let r = c.args.rise in
    subst (λ end. element p c.args.this r end ≤ element p c.args.other r end + c.dearer_to.result) c.rise_at.ensures.exact c.dearer_to.ensures.exact
