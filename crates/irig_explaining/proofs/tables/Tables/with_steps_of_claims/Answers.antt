use Rattle.std.proofs.Common.{refl, ◌≡◌, ◌⊎◌, ◌+◌, ◌<◌, ℕ, sym, subst, inl, inr, arith}
use Rattle.std.proofs.lemmas.Bool.{cases_lt}
use Rattle.irig_explaining.specs.Ways.{OtherWay}
use Rattle.irig_explaining.proofs.Elsewhere.{elsewhere_none, elsewhere_more, elsewhere_all}
use Rattle.irig_explaining.proofs.tables.Tables.with_steps_of_claims.Goals as goal

pub loop-element-init : goal.loop-element-init
loop-element-init g c = record {
  kept = omega arith;
  least = elsewhere_none _ _ _ _ _ _ _ _ (λ r e q f over low. let lt = low.2 in omega arith);
  origin = inl refl;
}

pub loop-element-preserved : goal.loop-element-preserved
loop-element-preserved g c =
    let price = g.C.Costs.price c.args.self.now.costs.now in let place = g.C.Places.place c.args.self.now.costs.now in
    let rises = c.args.self.now.rises in let before = c.args.self.now.before.items in let after = c.args.self.now.after.items in
    let i = c.loop-element.element in let t = c.args.rise in let q2 = c.args.later in
    let more = c.with_steps_from_rise-least.ensures in
    let Q : ℕ → Type 0 = λ x. (x ≡ c.args.best) ⊎ OtherWay price place rises before after c.args.asked x in
    record {
      kept = omega (arith, more.kept, c.loop-element.invariant.kept);
      least = elsewhere_more price place rises before after c.args.asked (λ r e q f. (r ≡ t) × (q ≡ q2) × (f < i))
          (λ r e q f. (r ≡ t) × (q ≡ q2) × (f ≡ i)) (λ r e q f. (r ≡ t) × (q ≡ q2) × (f < i + 1))
          c.loop-element.least _ c.loop-element.invariant.least more.kept more.least
          (λ r e q f over low. let lt = low.2 in elim (cases_lt f i) [ inl less ↦ inl (low.0, low.1, less) | inr le ↦ inr (low.0, low.1, omega arith) ]);
      origin = elim more.origin [ inl same ↦ subst Q (sym same) c.loop-element.invariant.origin | inr h ↦ inr h ];
    }

pub returns-clause-least : goal.returns-clause-least
returns-clause-least g c =
    elsewhere_all _ _ _ _ _ _ (λ r e q f. (r ≡ c.args.rise) × (q ≡ c.args.later) × (f < c.loop-element.element))
    (λ r e q f. (r ≡ c.args.rise) × (q ≡ c.args.later)) _ c.loop-element.invariant.least
    (λ r e q f over here. let end = over.end in (here.0, here.1, omega (arith, c.loop-element-test.false)))
