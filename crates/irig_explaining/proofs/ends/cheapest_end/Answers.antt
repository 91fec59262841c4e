use Rattle.std.proofs.Common.{◌≡◌, ◌+◌, ◌<◌, length, get_or, arith, refl}
use Rattle.std.proofs.lemmas.Option.{slice_get_within}
use Rattle.irig_explaining.proofs.{Members.at_contains, Members.no_node}
use Rattle.irig_explaining.proofs.EndsSoFar.{least_end, backed_end}
use Rattle.irig_explaining.specs.Ends.{ending}
use Rattle.irig_explaining.proofs.ends.cheapest_end.Goals as goal

pub loop-number-preserved : goal.loop-number-preserved
loop-number-preserved c =
    let i = c.loop-number.number in
    let lt : i < length c.args.nodes.now = omega arith in
    let n = get_or c.args.nodes.now i no_node in
    let same : n.cost + c.skipped-in-loop-number.result ≡ ending c.args.rises n = omega (arith, c.skipped-in-loop-number.ensures.exact) in
    record {
      none = omega (arith, c.cheaper_end-best.ensures.first, c.loop-number.invariant.none);
      least = least_end c.args.rises c.args.nodes.now i c.loop-number.best c.cheaper_end-best.result c.loop-number.invariant.least
          c.cheaper_end-best.ensures.first (omega (arith, c.cheaper_end-best.ensures.second, same));
      backed = backed_end c.args.rises c.args.nodes.now i c.loop-number.best c.cheaper_end-best.result _ lt c.loop-number.invariant.backed
          c.cheaper_end-best.ensures.either refl same;
    }

pub returns : goal.returns
returns c = record {
  none = c.loop-number.invariant.none;
  least = λ n there. let at = at_contains c.args.nodes.now n there in
      let lt = slice_get_within c.args.nodes.now at.0 n at.1 in c.loop-number.invariant.least at.0 n (omega arith) at.1;
  backed = c.loop-number.invariant.backed;
}
