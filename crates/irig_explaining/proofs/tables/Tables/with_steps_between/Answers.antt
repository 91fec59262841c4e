use Rattle.std.proofs.Common.{◌+◌, ◌≤◌, arith}
use Rattle.irig_explaining.proofs.Elsewhere.{elsewhere_rises}
use Rattle.irig_explaining.proofs.tables.Tables.with_steps_between.Goals as goal

pub returns-then-best-low-clause-least : goal.returns-then-best-low-clause-least
returns-then-best-low-clause-least g c =
    let price = g.C.Costs.price c.args.self.now.costs.now in let place = g.C.Places.place c.args.self.now.costs.now in
    let rises = c.args.self.now.rises in let before = c.args.self.now.before.items in let after = c.args.self.now.after.items in
    let enough : c.args.best ≤ c.lowest_before-start.result + c.args.rest + c.least-step.result = omega (arith, c.if-best-low.true) in
    elsewhere_rises price place rises before after c.args.asked c.args.rise c.args.later c.lowest_before-start.result c.args.rest
    c.least-step.result c.args.best c.requires.full
    (let early = c.requires.early in let late = c.requires.late in let there = c.requires.there in omega arith) c.requires.there
    c.lowest_before-start.ensures.low c.requires.rest c.least-step.ensures enough

pub with_steps_of_nodes-requires-clause-full : goal.with_steps_of_nodes-requires-clause-full
with_steps_of_nodes-requires-clause-full g c = rw (c.as_slice-before.ensures.value, c.as_slice-after.ensures.value) c.requires.full

pub returns-clause-least : goal.returns-clause-least
returns-clause-least g c = rw (c.as_slice-before.ensures.value, c.as_slice-after.ensures.value) at c.with_steps_of_nodes.ensures.least

pub returns-clause-origin : goal.returns-clause-origin
returns-clause-origin g c = rw (c.as_slice-before.ensures.value, c.as_slice-after.ensures.value) at c.with_steps_of_nodes.ensures.origin
