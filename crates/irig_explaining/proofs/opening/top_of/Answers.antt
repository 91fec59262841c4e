use Rattle.std.proofs.Common.{◌-◌, ◌<◌, length, get_or, inr, arith}
use Rattle.std.proofs.lemmas.Option.{slice_get-get_or}
use Rattle.irig_explaining.proofs.{Members.no_node}
use Rattle.irig_explaining.proofs.opening.top_of.Goals as goal

pub returns : goal.returns
returns g c = λ f low.
    let nodes = c.args.nodes.now in let from = c.args.near.end - 1 in
    let lt : from < length nodes = let end = c.requires.near.below in omega arith in
    inr (record {
      number = from;
      node = get_or nodes from no_node;
      start = omega arith;
      end = omega arith;
      at = slice_get-get_or nodes from no_node lt;
      jump = omega (arith, c.dearest_jump.ensures f low);
    })
