use Rattle.std.proofs.Common.{◌≡◌, ◌⊎◌, ◌∙◌, Some, ap, sym, subst, refl, inl, inr, arith}
use Rattle.irig_explaining.specs.declared.{claim.Kind.TheVariants.Next, claim.Kind.TheVariants.Step, claim.Kind.TheVariants.Jump, ways.Way.Way}
use Rattle.irig_explaining.specs.Nodes.{going}
use Rattle.irig_explaining.proofs.ways.offer.Goals as goal

pub returns-then-top-least_from : goal.returns-then-top-least_from
returns-then-top-least_from g c = record {
  kept = omega arith;
  least = λ k low. absurd (omega (arith, c.least_from.ensures c.args.to.element k, c.if-top-least_from.true, low));
  origin = inl refl;
}

pub returns : goal.returns
returns g c =
    let price = g.C.Costs.price c.args.costs.now in let m = c.args.node in let q = c.args.to.rise in let f = c.args.to.element in
    let P : Way → Type 0 = λ w. (w ≡ c.args.best) ⊎ ((w.from ≡ Some c.args.from) × (w.cost ≡ going price m q f w.kind)) in
    let next : P c.come-next.result = inr (c.come-next.ensures.from, c.come-next.ensures.cost ∙ sym (ap (going price m q f) c.come-next.ensures.kind)) in
    let step : P c.come-step.result = inr (c.come-step.ensures.from, c.come-step.ensures.cost ∙ sym (ap (going price m q f) c.come-step.ensures.kind)) in
    let jump : P c.come-jump.result = inr (c.come-jump.ensures.from, c.come-jump.ensures.cost ∙ sym (ap (going price m q f) c.come-jump.ensures.kind)) in
    let one : P c.cheaper.result = elim c.cheaper.ensures.either [ inl e ↦ inl e | inr e ↦ subst P (sym e) next ] in
    let two : P c.cheaper-2.result = elim c.cheaper-2.ensures.either [ inl e ↦ subst P (sym e) one | inr e ↦ subst P (sym e) step ] in
    record {
      kept = omega (arith, c.cheaper.ensures.first, c.cheaper-2.ensures.first, c.cheaper-3.ensures.first);
      least = elim [
        | Next ↦ λ low. omega (arith, c.come-next.ensures.cost, c.cheaper.ensures.second, c.cheaper-2.ensures.first, c.cheaper-3.ensures.first)
        | Step ↦ λ low. omega (arith, c.come-step.ensures.cost, c.cheaper-2.ensures.second, c.cheaper-3.ensures.first)
        | Jump ↦ λ low. omega (arith, c.come-jump.ensures.cost, c.cheaper-3.ensures.second)
      ];
      origin = elim c.cheaper-3.ensures.either [ inl e ↦ subst P (sym e) two | inr e ↦ subst P (sym e) jump ];
    }
