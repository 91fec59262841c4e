use Rattle.std.proofs.Common.{◌≡◌, ◌⊎◌, ◌+◌, ◌-◌, ◌<◌, ◌^◌, ℕ, Some, get_or, length, slice_get, sym, subst, inl, inr, arith, refl}
use Rattle.std.proofs.lemmas.Bool.{cases_lt}
use Rattle.std.proofs.lemmas.Option.{get_or_from_slice_get, slice_get-get_or}
use Rattle.std.proofs.lemmas.List.Elements.{All-contains, All-get_or}
use Rattle.irig_explaining.specs.declared.nodes.Node.{Node}
use Rattle.irig_explaining.specs.{Bounds.ElsewhereBetween, Bounds.IsOver, Nodes.IsCost, Nodes.IsNode, Turned.turned, Ways.OtherWay}
use Rattle.irig_explaining.proofs.{Elsewhere.other_between, Members.at_contains, Members.no_node, NodeSteps.nodes_enough, NodeSteps.small_costs}
use Rattle.irig_explaining.proofs.node_steps.with_steps_of_nodes.Goals as goal

pub nodes_near-near-requires : goal.nodes_near-near-requires
nodes_near-near-requires g c = c.requires.full.after_least.sorted

pub with_steps_to-least-requires-clause-sorted : goal.with_steps_to-least-requires-clause-sorted
with_steps_to-least-requires-clause-sorted g c = c.requires.full.before_least.sorted

pub with_steps_to-least-requires-clause-small : goal.with_steps_to-least-requires-clause-small
with_steps_to-least-requires-clause-small g c =
    let fits : c.args.rises.skip < 2 ^ 32 = omega arith in
    small_costs (g.C.Costs.price c.args.costs.now) c.args.rises c.args.before.now c.requires.full.before_least c.requires.few fits

pub with_steps_to-least-requires-clause-rest : goal.with_steps_to-least-requires-clause-rest
with_steps_to-least-requires-clause-rest g c =
    let i = c.loop-number.number in let nodes = c.args.after.now in
    let lt : i < length nodes = let end = c.nodes_near-near.ensures.below in omega arith in
    let fits : c.args.rises.skip < 2 ^ 32 = omega arith in
    All-get_or (λ (n : Node). n.cost < 2 ^ 62) nodes i no_node lt
    (small_costs (turned (g.C.Costs.price c.args.costs.now) c.args.rises.count) c.args.rises nodes c.requires.full.after_least c.requires.few fits)

pub loop-number-preserved : goal.loop-number-preserved
loop-number-preserved g c =
    let price = g.C.Costs.price c.args.costs.now in let place = g.C.Places.place c.args.costs.now in
    let before = c.args.before.now in let after = c.args.after.now in let rises = c.args.rises in
    let i = c.loop-number.number in let a = c.args.asked in let r = c.args.rise in let q = c.args.later in
    let so_far = c.loop-number.invariant in let more = c.with_steps_to-least.ensures in let new = c.with_steps_to-least.result in
    let lt : i < length after = let end = c.nodes_near-near.ensures.below in omega arith in
    let m = get_or after i no_node in let at_i = slice_get-get_or after i no_node lt in
    let low = c.nodes_near-near.ensures.later i m at_i (omega arith) in
    let high = c.nodes_near-near.ensures.near i m at_i (omega arith) in
    let there = c.requires.there in
    let m_at : m.rise ≡ rises.count - 1 - q = omega (arith, low, high, there) in
    let m_is = All-get_or (IsNode (turned price rises.count) rises rises.count after) after i no_node lt c.requires.full.after_least.each in
    let Q : ℕ → Type 0 = λ x. (x ≡ c.args.best) ⊎ OtherWay price place rises before after a x in
    record {
      kept = omega (arith, more.kept, so_far.kept);
      least = λ v x from less at n there same. elim (cases_lt v i) [
        | inl earlier ↦ record { least = λ k unlike. omega (arith, (so_far.least v x from earlier at n there same).least k unlike, more.kept) }
        | inr le ↦
            let here : v ≡ i = omega arith in
            let is = get_or_from_slice_get after i x no_node (subst (λ w. slice_get after w ≡ Some x) here at) in
            subst (λ (y : Node). ElsewhereBetween price place a (n.cost + y.cost) r n.element q y.element new) is (more.least n there same)
      ];
      origin = elim more.origin [
        | inl same ↦ subst Q (sym same) so_far.origin
        | inr h ↦
            let n_is = All-contains (IsNode price rises rises.count before) before h.node c.requires.full.before_least.each h.there in
            let over : IsOver rises a r h.node.element q m.element = record {
              early = c.requires.early;
              late = c.requires.late;
              last = c.requires.there;
              near = c.requires.near;
              start = n_is.element;
              end = m_is.element;
            } in
            inr (other_between price place rises before after a r h.node.element q m.element h.node.cost m.cost (h.node.cost + m.cost) new over
            (subst (λ x. IsCost price rises before x h.node.element h.node.cost) h.beside n_is.costs)
            (subst (λ x. IsCost (turned price rises.count) rises after x m.element m.cost) m_at m_is.costs) refl h.other)
      ];
    }

pub returns-clause-least : goal.returns-clause-least
returns-clause-least g c =
    let price = g.C.Costs.price c.args.costs.now in let place = g.C.Places.place c.args.costs.now in let rises = c.args.rises in
    let there = c.requires.there in let early = c.requires.early in let late = c.requires.late in
    nodes_enough price place rises c.args.before.now c.args.after.now c.args.asked c.args.rise c.args.later c.loop-number.least c.requires.full
    (omega (arith, there, early, late)) c.requires.there c.requires.jumps
    (λ n m there_n same_n there_m same_m.
    let at = at_contains c.args.after.now m there_m in
    let near = c.nodes_near-near.ensures.all at.0 m at.1 (omega (arith, same_m, there)) (omega (arith, same_m, there)) in
    c.loop-number.invariant.least at.0 m near.0 (let end = c.loop-number-test.false in omega (arith, near.1)) at.1 n there_n same_n)
