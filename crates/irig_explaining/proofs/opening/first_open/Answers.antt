use Rattle.std.proofs.Common.{◌≡◌, ◌<◌, ◌≤◌, ℕ, Some, get_or, slice_get, subst, arith, below_more}
use Rattle.std.proofs.lemmas.Option.{get_or_from_slice_get}
use Rattle.irig_explaining.specs.declared.{nodes.Node.Node}
use Rattle.irig_explaining.specs.Nodes.{going}
use Rattle.irig_explaining.proofs.{Members.no_node}
use Rattle.irig_explaining.proofs.opening.first_open.Goals as goal

pub loop-from-init : goal.loop-from-init
loop-from-init g c = λ u f m k at le lt. absurd (omega arith)

pub loop-from-preserved : goal.loop-from-preserved
loop-from-preserved g c = λ u f m k at le lt.
    let price = g.C.Costs.price c.args.costs.now in let nodes = c.args.nodes.now in let i = c.loop-from.from in
    let top = c.args.top in let q = c.args.rise in
    let P : ℕ → Type 0 = λ u. (m : Node) → slice_get nodes u ≡ Some m → c.args.near.start ≤ u → top < going price m q f k in
    below_more P i
    (λ u lt m at le. c.loop-from.invariant u f m k at le lt)
    (λ m at le.
    let n = get_or nodes i no_node in
    let far = c.can_be_open.ensures c.if-can_be_open.false in
    let price_least = c.remote_from-remote.ensures n.rise n.element f k far.0 in
    subst (λ (x : Node). top < going price x q f k) (get_or_from_slice_get nodes i m no_node at) (omega (arith, far.1, price_least)))
    u lt m at le

pub returns-then-can_be_open-clause-others : goal.returns-then-can_be_open-clause-others
returns-then-can_be_open-clause-others g c = λ u f m k at le lt. c.loop-from.invariant u f m k at le lt

pub returns-clause-others : goal.returns-clause-others
returns-clause-others g c = λ u f m k at le lt. let end = c.loop-from-test.false in c.loop-from.invariant u f m k at le (omega (arith, lt))
