use Rattle.std.proofs.Common.{get_or, reverse, subst}
use Rattle.std.proofs.lemmas.Option.{slice_get-get_or, slice_get_within}
use Rattle.std.proofs.lemmas.List.Elements.{All-get_or}
use Rattle.irig_explaining.specs.{Ends.IsEnding, Nodes.IsNode}
use Rattle.irig_explaining.proofs.Members.{no_node}
use Rattle.irig_explaining.proofs.ReadBack.{ends_at, led_from, left_smaller, read_more}
use Rattle.irig_explaining.proofs.read_back.read_back.Goals as goal

pub back-init : goal.back-init
back-init g c =
    let price = g.C.Costs.price c.args.costs.now in
    rw c.new-claims.ensures.items (ends_at price c.args.rises c.args.nodes.now c.args.end c.args.end.last c.requires.table c.requires.end.backed)

pub cheapest-way-requires-clause-top : goal.cheapest-way-requires-clause-top
cheapest-way-requires-clause-top g c =
    let price = g.C.Costs.price c.args.costs.now in let nodes = c.args.nodes.now in let rises = c.args.rises in let v = c.in-Some.number in
    let follow = subst (IsEnding price rises nodes (reverse c.back.claims.items) c.args.end.cost) c.in-Some.is c.back.invariant in
    let n = get_or nodes v no_node in
    let is = All-get_or (IsNode price rises rises.count nodes) nodes v no_node (slice_get_within nodes v follow.node follow.at) c.requires.table.each in
    let near = rw c.claim-to.ensures at c.nodes_near-near.ensures in
    rw c.claim-to.ensures (led_from price rises nodes c.nodes_near-near.result n.rise n.element n.cost is.costs.way is.costs.way.from near
    is.costs.is.backed is.costs.exact)

pub back-smaller : goal.back-smaller
back-smaller g c =
    let nodes = c.args.nodes.now in let rises = c.args.rises in let v = c.in-Some.number in let price = g.C.Costs.price c.args.costs.now in
    let follow = subst (IsEnding price rises nodes (reverse c.back.claims.items) c.args.end.cost) c.in-Some.is c.back.invariant in
    let at = slice_get-get_or nodes v no_node (slice_get_within nodes v follow.node follow.at) in
    let least = rw c.claim-to.ensures at c.cheapest-way.ensures in
    rw c.in-Some.is (left_smaller price rises nodes v (get_or nodes v no_node) c.cheapest-way.result c.cheapest-way.result.from at least.backed)

pub back-preserved : goal.back-preserved
back-preserved g c =
    let nodes = c.args.nodes.now in let rises = c.args.rises in let v = c.in-Some.number in let price = g.C.Costs.price c.args.costs.now in
    let cs = c.back.claims.items in let total = c.args.end.cost in let n = get_or nodes v no_node in
    let follow = subst (IsEnding price rises nodes (reverse cs) total) c.in-Some.is c.back.invariant in
    let at = slice_get-get_or nodes v no_node (slice_get_within nodes v follow.node follow.at) in
    let least = rw c.claim-to.ensures at c.cheapest-way.ensures in
    rw (c.in_ok-push.ensures.items, c.claim.ensures)
    (read_more price rises nodes cs total v n c.cheapest-way.result c.requires.table at least follow)
