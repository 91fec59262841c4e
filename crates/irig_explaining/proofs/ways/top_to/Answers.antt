use Rattle.std.proofs.Common.{◌-◌, ◌<◌, length, inr, arith}
use Rattle.std.proofs.lemmas.Option.{slice_get-get_or}
use Rattle.irig_explaining.specs.declared.claim.Kind.TheVariants.{Jump}
use Rattle.irig_explaining.proofs.{Members.no_node}
use Rattle.irig_explaining.proofs.ways.top_to.Goals as goal

pub returns : goal.returns
returns g c =
    let nodes = c.args.nodes.now in let from = c.args.near.end - 1 in
    let lt : from < length nodes = let end = c.requires.near.below in omega arith in
    inr (record {
      number = from;
      node = _;
      start = omega arith;
      end = omega arith;
      at = slice_get-get_or nodes from no_node lt;
      kind = Jump;
      step = omega (arith, c.come.ensures.cost);
    })
