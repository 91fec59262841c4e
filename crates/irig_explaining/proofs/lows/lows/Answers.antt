use Rattle.irig_explaining.specs.declared.ways.Way.{Way}
use Rattle.std.proofs.Common.{List, ◌≡◌, ◌∙◌, get_or, ap, inl, inr, arith}
use Rattle.irig_explaining.specs.{Lows.AreStepped, Opened.no_way}
use Rattle.irig_explaining.proofs.Lowering.{least_cost}
use Rattle.irig_explaining.proofs.lows.lows.Goals as goal

pub jump_ways-requires-clause-opens : goal.jump_ways-requires-clause-opens
jump_ways-requires-clause-opens g c = rw c.as_slice-opens.ensures.value c.in_ok-found.ensures.each

pub returns : goal.returns
returns g c =
    let price = g.C.Costs.price c.args.costs.now in let nodes = c.args.nodes.now in
    let opens = c.as_slice-opens.result.now in let old = c.in_ok-lows.lows.items in let new = c.step_lows.new.lows.items in
    let all = c.in_ok-lows.ensures.all in
    let are : AreStepped price nodes opens c.args.rise old new = c.step_lows.ensures in record {
      all = omega (arith, are.all, all);
      each = λ f lt.
          let jump = (c.in_ok-ways.ensures f lt).1 in
          let w = get_or c.in_ok-ways.ways.items (g.C.Costs.to_class c.args.costs.now f) no_way in
          let of = g.C.Costs.to_class c.args.costs.now f in
          let same = ap (λ (xs : List Way). (get_or xs of no_way).cost) c.as_slice-jumps.ensures.value in
          let first : get_or old f 0 ≡ w.cost = c.in_ok-lows.ensures.each f lt ∙ same in
          least_cost price c.args.rises nodes c.args.near c.args.rise f c.top_of-top.result opens w (get_or new f 0) c.requires.near.all
          (c.top_of-top.ensures f lt) (rw c.as_slice-opens.ensures.value c.in_ok-found.ensures) jump (omega (arith, are.kept f, first))
          (λ o m there at on. are.under f o m (omega (arith, all, lt)) there at on)
          (elim (are.origin f) [ inl e ↦ inl (e ∙ first) | inr by ↦ inr by ]);
    }
