use Rattle.std.proofs.Common.{refl, ◌≡◌, ◌⊎◌, ◌+◌, ◌<◌, ℕ, sym, subst, inl, inr, arith}
use Rattle.std.proofs.lemmas.Bool.{cases_lt}
use Rattle.irig_explaining.specs.Ways.{OtherWay}
use Rattle.irig_explaining.proofs.Elsewhere.{elsewhere_none, elsewhere_more, elsewhere_all, elsewhere_from}
use Rattle.irig_explaining.proofs.tables.Tables.with_steps_from_rise.Goals as goal

pub loop-element-init : goal.loop-element-init
loop-element-init g c = record {
  kept = omega arith;
  least = elsewhere_none _ _ _ _ _ _ _ _ (λ r e q f over low. let lt = low.1 in omega arith);
  origin = inl refl;
}

pub loop-element-preserved : goal.loop-element-preserved
loop-element-preserved g c =
    let price = g.C.Costs.price c.args.self.now.costs.now in let place = g.C.Places.place c.args.self.now.costs.now in
    let rises = c.args.self.now.rises in let before = c.args.self.now.before.items in let after = c.args.self.now.after.items in
    let i = c.loop-element.element in let t = c.args.rise in let q2 = c.args.to.rise in let f2 = c.args.to.element in
    let more = c.with_steps_from-least.ensures in
    let Q : ℕ → Type 0 = λ x. (x ≡ c.args.best) ⊎ OtherWay price place rises before after c.args.asked x in
    record {
      kept = omega (arith, more.kept, c.loop-element.invariant.kept);
      least = elsewhere_more price place rises before after c.args.asked (λ r e q f. (r ≡ t) × (e < i) × (q ≡ q2) × (f ≡ f2))
          (λ r e q f. (r ≡ t) × (e ≡ i) × (q ≡ q2) × (f ≡ f2)) (λ r e q f. (r ≡ t) × (e < i + 1) × (q ≡ q2) × (f ≡ f2))
          c.loop-element.least _ c.loop-element.invariant.least more.kept more.least
          (λ r e q f over low. let lt = low.1 in elim (cases_lt e i) [
            | inl less ↦ inl (low.0, less, low.2, low.3)
            | inr le ↦ inr (low.0, omega arith, low.2, low.3)
          ]);
      origin = elim more.origin [ inl same ↦ subst Q (sym same) c.loop-element.invariant.origin | inr h ↦ inr h ];
    }

pub returns-clause-least : goal.returns-clause-least
returns-clause-least g c =
    elsewhere_all _ _ _ _ _ _ (λ r e q f. (r ≡ c.args.rise) × (e < c.loop-element.element) × (q ≡ c.args.to.rise) × (f ≡ c.args.to.element))
    (λ r e q f. (r ≡ c.args.rise) × (q ≡ c.args.to.rise) × (f ≡ c.args.to.element)) _ c.loop-element.invariant.least
    (λ r e q f over here. let start = over.start in (here.0, omega (arith, c.loop-element-test.false), here.1, here.2))

pub returns-then-best-start-clause-least : goal.returns-then-best-start-clause-least
returns-then-best-start-clause-least g c =
    let price = g.C.Costs.price c.args.self.now.costs.now in let place = g.C.Places.place c.args.self.now.costs.now in
    let rises = c.args.self.now.rises in let before = c.args.self.now.before.items in let after = c.args.self.now.after.items in
    elsewhere_from price place rises before after c.args.asked c.args.rise c.args.to.rise c.args.to.element c.args.start c.cost_after-rest.result
    c.args.best c.requires.full.before_least
    (let early = c.requires.early in let late = c.requires.late in let there = c.requires.there in omega arith) c.requires.start
    c.cost_after-rest.ensures.cost c.if-best-start.true
