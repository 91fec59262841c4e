use Rattle.std.proofs.Common.{◌≡◌, ◌-◌, ◌<◌, ◌≤◌, Some, length, slice_get, subst, arith, inl, inr, ap}
use Rattle.std.proofs.lemmas.Bool.{cases_lt}
use Rattle.std.proofs.lemmas.Option.{get_or_from_slice_get}
use Rattle.irig_explaining.specs.declared.nodes.Node.{Node}
use Rattle.irig_explaining.proofs.Members.{at_contains, no_node}
use Rattle.irig_explaining.proofs.lowest.lowest_of.Goals as goal

pub loop-back-preserved : goal.loop-back-preserved
loop-back-preserved c =
    let i = c.of_rises_before-end.result - 1 - c.loop-back.back in let nodes = c.args.nodes.now in let so_far = c.loop-back.invariant in record {
      low = λ u n from less at. elim (cases_lt i u) [
        | inl later ↦ omega (arith, so_far.low u n (omega (arith, later)) less at, c.min-low.ensures)
        | inr le ↦
            let same : u ≡ i = omega (arith, from, less, le) in
            let here = get_or_from_slice_get nodes i n no_node (subst (λ v. slice_get nodes v ≡ Some n) same at) in
            subst (λ (m : Node). c.min-low.result ≤ m.cost) here (omega (arith, c.min-low.ensures))
      ];
      kept = omega (arith, so_far.kept, c.min-low.ensures);
    }

pub returns-clause-low : goal.returns-clause-low
returns-clause-low c = λ n there same.
    let at = at_contains c.args.nodes.now n there in let split = c.of_rises_before-end.ensures in
    elim (cases_lt at.0 c.of_rises_before-end.result) [
      | inl less ↦ c.loop-back.invariant.low at.0 n (let end = c.loop-back-test.false in omega (arith, end)) less at.1
      | inr le ↦ (let late = split.after at.0 n at.1 le in absurd (omega (arith, late, same)))
    ]

pub returns-then-node-rise-clause-low : goal.returns-then-node-rise-clause-low
returns-then-node-rise-clause-low c = λ n there same.
    let end = c.of_rises_before-end.result in let split = c.of_rises_before-end.ensures in
    let i = end - 1 - c.loop-back.back in let nodes = c.args.nodes.now in
    let below = split.below in let lt : i < length nodes = omega (arith, below) in
    let at = at_contains nodes n there in
    elim (cases_lt at.0 end) [
      | inr le ↦ (let late = split.after at.0 n at.1 le in absurd (omega (arith, late, same)))
      | inl less ↦ elim (cases_lt i at.0) [
        | inl later ↦ c.loop-back.invariant.low at.0 n (omega (arith, later)) less at.1
        | inr le ↦
            let rising = c.requires.sorted at.0 i no_node le lt in
            let itself = ap (λ (x : Node). x.rise) (get_or_from_slice_get nodes at.0 n no_node at.1) in
            absurd (omega (arith, rising, itself, same, c.if-node-rise.true))
      ]
    ]
