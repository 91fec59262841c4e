use Rattle.std.proofs.Common.{◌≡◌, ◌<◌, ◌∙◌, ap, sym, arith}
use Rattle.irig_explaining.specs.Wires.{element, wire_end}
use Rattle.irig_explaining.proofs.Counted.{wire_more, wire_one}
use Rattle.irig_explaining.proofs.prices.Prices.wire.Goals as goal

pub returns-then-count-eq1-clause-exact : goal.returns-then-count-eq1-clause-exact
returns-then-count-eq1-clause-exact c =
    let p = c.args.self.now in let role = c.args.role in let r = c.args.rise in
    c.element.ensures.exact ∙ (ap (element p role r) c.rise_at.ensures.exact ∙ sym (wire_one p role r c.args.later c.args.count c.if-count-eq1.true))

pub returns-clause-exact : goal.returns-clause-exact
returns-clause-exact c =
    let p = c.args.self.now in let role = c.args.role in let r = c.args.rise in let q = c.args.later in let count = c.args.count in
    let many : 1 < count = omega (arith, c.requires.some, c.if-count-eq1.false) in
    let here : c.element-2.result ≡ element p role r (wire_end p r) = c.element-2.ensures.exact ∙ ap (element p role r) c.wire_end.ensures.exact in
    omega (arith, here, c.between.ensures.exact, wire_more p role r q count many)
