use Rattle.std.proofs.Common.{◌≡◌, ◌⊎◌, ◌+◌, ◌<◌, ◌^◌, ℕ, Some, get_or, length, slice_get, sym, subst, inl, inr, arith}
use Rattle.std.proofs.lemmas.Bool.{cases_lt}
use Rattle.std.proofs.lemmas.Option.{get_or_from_slice_get, slice_get-get_or}
use Rattle.std.proofs.lemmas.List.Elements.{All-get_or, Contains-get_or}
use Rattle.irig_explaining.specs.declared.nodes.Node.{Node}
use Rattle.irig_explaining.specs.{Bounds.ElsewhereBetween, Ways.OtherFrom}
use Rattle.irig_explaining.proofs.Members.{at_contains, no_node}
use Rattle.irig_explaining.proofs.node_steps.with_steps_to.Goals as goal

pub with_step-least-requires : goal.with_step-least-requires
with_step-least-requires g c =
    let i = c.loop-number.number in let nodes = c.args.nodes.now in
    let lt : i < length nodes = let end = c.nodes_near-near.ensures.below in omega arith in
    let small = All-get_or (λ (n : Node). n.cost < 2 ^ 62) nodes i no_node lt c.requires.small in
    omega (arith, small, c.requires.rest)

pub loop-number-preserved : goal.loop-number-preserved
loop-number-preserved g c =
    let price = g.C.Costs.price c.args.costs.now in let place = g.C.Places.place c.args.costs.now in
    let nodes = c.args.nodes.now in let i = c.loop-number.number in let a = c.args.asked in let to = c.args.to in
    let so_far = c.loop-number.invariant in let more = c.with_step-least.ensures in let new = c.with_step-least.result in
    let lt : i < length nodes = let end = c.nodes_near-near.ensures.below in omega arith in
    let n = get_or nodes i no_node in let at_i = slice_get-get_or nodes i no_node lt in
    let low = c.nodes_near-near.ensures.later i n at_i (omega arith) in
    let high = c.nodes_near-near.ensures.near i n at_i (omega arith) in
    let Q : ℕ → Type 0 = λ x. (x ≡ c.args.best) ⊎ OtherFrom price place nodes a c.args.rise c.args.rest to.rise to.element x in
    record {
      kept = omega (arith, more.kept, so_far.kept);
      least = λ u m from less at. elim (cases_lt u i) [
        | inl before ↦ record { least = λ k unlike. omega (arith, (so_far.least u m from before at).least k unlike, more.kept) }
        | inr le ↦
            let same : u ≡ i = omega arith in
            let here = get_or_from_slice_get nodes i m no_node (subst (λ v. slice_get nodes v ≡ Some m) same at) in
            subst (λ (x : Node). ElsewhereBetween price place a (x.cost + c.args.rest) c.args.rise x.element to.rise to.element new) here more.least
      ];
      origin = elim more.origin [
        | inl same ↦ subst Q (sym same) so_far.origin
        | inr h ↦ inr (record { node = n; there = Contains-get_or nodes i no_node lt; beside = omega (arith, low, high); other = h })
      ];
    }

pub returns-clause-least : goal.returns-clause-least
returns-clause-least g c = λ n there same.
    let at = at_contains c.args.nodes.now n there in
    let near = c.nodes_near-near.ensures.all at.0 n at.1 (omega (arith, same)) (omega (arith, same)) in
    c.loop-number.invariant.least at.0 n near.0 (let end = c.loop-number-test.false in omega (arith, near.1)) at.1
