use Rattle.std.proofs.Common.{◌<◌, ◌≤◌, length, inl, inr, arith}
use Rattle.std.proofs.lemmas.Bool.{cases_lt}
use Rattle.std.proofs.lemmas.Option.{slice_get-get_or}
use Rattle.irig_explaining.specs.{Nodes.Within, Nodes.going}
use Rattle.irig_explaining.proofs.{Members.at_contains, Members.no_node, LeastWays.steps_more, LeastWays.backed_more}
use Rattle.irig_explaining.proofs.ways.cheapest.Goals as goal

pub loop-from-init : goal.loop-from-init
loop-from-init g c = record {
  first = omega (arith, c.first-best.ensures.cost);
  steps = λ u m k lt at w low.
      let near = c.requires.near.all u m at w.later w.near in
      let above = c.first_open-from.ensures.others u c.args.to.element m k at near.0 lt in absurd (omega (arith, above, low));
  backed = rw c.first-best.ensures.from c.first-best.ensures.cost;
}

pub loop-from-preserved : goal.loop-from-preserved
loop-from-preserved g c =
    let i = c.loop-from.from in let nodes = c.args.nodes.now in
    let lt : i < length nodes = let end = c.requires.near.below in omega arith in
    let at = slice_get-get_or nodes i no_node lt in
    record {
      first = omega (arith, c.offer-best.ensures.kept, c.loop-from.invariant.first);
      steps = steps_more _ c.args.rises nodes i c.args.to _ c.loop-from.best c.offer-best.result c.loop-from.invariant.steps c.offer-best.ensures;
      backed = backed_more _ c.args.rises nodes i c.args.to _ c.loop-from.best c.offer-best.result _ at
          (record { later = c.requires.near.later i _ at (omega arith); near = c.requires.near.near i _ at (omega (arith, c.first_open-from.ensures.start)) })
          c.loop-from.invariant.backed c.offer-best.ensures;
    }

pub returns : goal.returns
returns g c =
    let nodes = c.args.nodes.now in let price = g.C.Costs.price c.args.costs.now in let best = c.loop-from.best in
    let q = c.args.to.rise in let f = c.args.to.element in let top = c.args.top in
    let steps = c.loop-from.invariant.steps in
    let under : best.cost ≤ top = elim c.requires.top [
      | inl first ↦ omega (arith, c.loop-from.invariant.first, first)
      | inr j ↦
          let within : Within c.args.rises j.node q =
          record { later = c.requires.near.later j.number j.node j.at j.end; near = c.requires.near.near j.number j.node j.at j.start } in
          omega (arith, j.step, steps j.number j.node j.kind (omega (arith, j.end)) j.at within j.step)
    ] in
    record {
      low = record {
        first = c.loop-from.invariant.first;
        steps = λ m k there w.
            let at = at_contains nodes m there in
            let near = c.requires.near.all at.0 m at.1 w.later w.near in
            elim (cases_lt top (going price m q f k)) [
              | inl above ↦ omega (arith, under, above)
              | inr low ↦ steps at.0 m k (omega (arith, near.1)) at.1 w low
            ];
      };
      backed = c.loop-from.invariant.backed;
    }
