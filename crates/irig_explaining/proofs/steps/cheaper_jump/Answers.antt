use Rattle.std.proofs.Common.{◌≡◌, ◌⊎◌, sym, subst, inl, inr, arith}
use Rattle.irig_explaining.specs.declared.ways.Way.{Way}
use Rattle.irig_explaining.specs.Opened.{IsBy}
use Rattle.irig_explaining.proofs.steps.cheaper_jump.Goals as goal

pub returns : goal.returns
returns g c =
    let price = g.C.Costs.price c.args.costs.now in
    let P : Way → Type 0 = λ w. (w ≡ c.args.best) ⊎ IsBy price (g.C.Costs.to_class c.args.costs.now) c.args.node c.args.from c.args.rise c.args.class w in
    record {
      kept = c.cheaper.ensures.first;
      least = λ f of. omega (arith, c.cheaper.ensures.second, c.jump.ensures.cost f of);
      origin = elim c.cheaper.ensures.either [
        | inl e ↦ inl e
        | inr e ↦ subst P (sym e) (inr (record { from = c.jump.ensures.from; kind = c.jump.ensures.kind; cost = c.jump.ensures.cost }))
      ];
    }
