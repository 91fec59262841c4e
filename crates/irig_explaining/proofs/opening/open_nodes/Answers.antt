use Rattle.std.proofs.Common.{◌<◌, length, get_or, inr, arith}
use Rattle.std.proofs.lemmas.Option.{slice_get-get_or}
use Rattle.irig_explaining.proofs.{Members.no_node, Opens.closed_more, Opens.opened_more}
use Rattle.irig_explaining.proofs.opening.open_nodes.Goals as goal
use Rattle.irig_explaining.proofs.opening.open_nodes.Goals.{then-least-top+in_ok-push, else-least-top}

pub loop-from-init : goal.loop-from-init
loop-from-init g c = rw c.new-opens.ensures.items (record {
  each = λ i d lt. absurd (omega arith);
  others = λ u m at le lt. inr (λ f k. c.first_open-from.ensures.others u f m k at le lt);
})

pub loop-from-preserved : goal.loop-from-preserved
loop-from-preserved g c =
    let price = g.C.Costs.price c.args.costs.now in let nodes = c.args.nodes.now in let i = c.loop-from.from in
    let start = c.args.near.start in let q = c.args.rise in let top = c.args.top in let old = c.loop-from.opens.items in
    let lt : i < length nodes = let end = c.requires.near.below in omega arith in
    let at = slice_get-get_or nodes i no_node lt in
    elim c.if-least-top.branch [
      | then-least-top+in_ok-push w ↦
          rw (w.opens-is, w.in_ok-push.ensures.items)
          (opened_more price c.args.rises nodes q start i top old _ c.loop-from.invariant
          (record {
            node = get_or nodes i no_node;
            at = rw w.opened.ensures.from at;
            within = record {
              later = c.requires.near.later i _ at (omega arith);
              near = c.requires.near.near i _ at (omega (arith, c.first_open-from.ensures.start));
            };
            fits = w.opened.ensures.fits;
            reach = w.opened.ensures.reach;
            least = w.opened.ensures.least;
          })
          w.opened.ensures.from)
      | else-least-top w ↦
          rw w.opens-is (closed_more price c.args.rises nodes q start i top old c.loop-from.invariant
          (λ f k. omega (arith, w.if-least-top.false, c.least_from-least.ensures f k)))
    ]
