use Rattle.std.proofs.Common.{refl, ◌+◌, inl, inr, arith}
use Rattle.irig_explaining.specs.Bounds.{IsOver}
use Rattle.irig_explaining.proofs.Elsewhere.{elsewhere_between, elsewhere_low, other_between}
use Rattle.irig_explaining.proofs.tables.Tables.with_steps_from.Goals as goal

pub returns-clause-least : goal.returns-clause-least
returns-clause-least g c =
    let price = g.C.Costs.price c.args.self.now.costs.now in let place = g.C.Places.place c.args.self.now.costs.now in
    let rises = c.args.self.now.rises in let before = c.args.self.now.before.items in let after = c.args.self.now.after.items in
    let x = c.cost_before.result in let rest = c.args.rest in
    elsewhere_between price place rises before after c.args.asked c.args.from.rise c.args.from.element c.args.to.rise c.args.to.element x rest
    (x + rest) c.with_step-2.result c.cost_before.ensures.cost c.requires.rest refl c.with_step-2.ensures.least

pub returns-clause-origin : goal.returns-clause-origin
returns-clause-origin g c =
    let price = g.C.Costs.price c.args.self.now.costs.now in let place = g.C.Places.place c.args.self.now.costs.now in
    let rises = c.args.self.now.rises in let before = c.args.self.now.before.items in let after = c.args.self.now.after.items in
    let x = c.cost_before.result in let rest = c.args.rest in
    let over : IsOver rises c.args.asked c.args.from.rise c.args.from.element c.args.to.rise c.args.to.element = record {
      early = c.requires.early;
      late = c.requires.late;
      last = c.requires.there;
      near = c.requires.near;
      start = c.requires.elements.0;
      end = c.requires.elements.1;
    } in
    elim c.with_step-2.ensures.origin [
      | inl same ↦ inl same
      | inr h ↦ inr (other_between price place rises before after c.args.asked c.args.from.rise c.args.from.element c.args.to.rise
          c.args.to.element x rest (x + rest) c.with_step-2.result over c.cost_before.ensures.cost c.requires.rest refl h)
    ]

pub returns-then-best-with_step-clause-least : goal.returns-then-best-with_step-clause-least
returns-then-best-with_step-clause-least g c =
    let price = g.C.Costs.price c.args.self.now.costs.now in let place = g.C.Places.place c.args.self.now.costs.now in
    let rises = c.args.self.now.rises in let before = c.args.self.now.before.items in let after = c.args.self.now.after.items in
    elsewhere_low price place rises before after c.args.asked c.args.from.rise c.args.from.element c.args.to.rise c.args.to.element c.args.start
    c.args.rest c.with_step.result c.args.best c.requires.full.before_least
    (let early = c.requires.early in let late = c.requires.late in let there = c.requires.there in omega arith) c.requires.elements.0
    c.requires.start c.requires.rest c.with_step.ensures.least c.if-best-with_step.true
