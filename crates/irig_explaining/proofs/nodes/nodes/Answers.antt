use Rattle.std.proofs.Common.{arith}
use Rattle.irig_explaining.specs.Rows.{IsRow}
use Rattle.irig_explaining.proofs.Growing.{nodes_more}
use Rattle.irig_explaining.proofs.nodes.nodes.Goals as goal

pub kept-requires-clause-states : goal.kept-requires-clause-states
kept-requires-clause-states g c =
    let is : IsRow (g.C.Costs.price c.args.costs.now) c.args.rises c.loop-rise.nodes.items c.loop-rise.rise c.as_slice-row.result.now =
    rw c.as_slice-row.ensures.value (rw c.as_slice.ensures.value at c.in_ok-found.ensures) in
    omega (arith, is.all)

pub loop-rise-preserved : goal.loop-rise-preserved
loop-rise-preserved g c =
    let price = g.C.Costs.price c.args.costs.now in let rises = c.args.rises in let nodes = c.loop-rise.nodes.items in let r = c.loop-rise.rise in
    let row = c.as_slice-row.result.now in let more = c.in_ok-kept.kept.items in let best = c.least_of.result in
    let is : IsRow price rises nodes r row = rw c.as_slice-row.ensures.value (rw c.as_slice.ensures.value at c.in_ok-found.ensures) in
    rw (c.in_ok-extend_from_slice.ensures.items, c.as_slice-in-loop-rise.ensures.value)
    (nodes_more price rises nodes row more r best c.loop-rise.invariant is c.least_of.ensures c.in_ok-kept.ensures)
