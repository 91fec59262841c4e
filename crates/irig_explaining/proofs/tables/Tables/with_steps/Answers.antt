use Rattle.std.proofs.Common.{refl, ◌≡◌, ◌⊎◌, ◌+◌, ◌<◌, ℕ, sym, subst, inl, inr, arith}
use Rattle.std.proofs.lemmas.Bool.{cases_lt}
use Rattle.irig_explaining.specs.Ways.{OtherWay}
use Rattle.irig_explaining.proofs.Elsewhere.{elsewhere_none, elsewhere_more, elsewhere_all}
use Rattle.irig_explaining.proofs.tables.Tables.with_steps.Goals as goal

pub loop-rise-init : goal.loop-rise-init
loop-rise-init g c = record {
  kept = omega arith;
  least = elsewhere_none _ _ _ _ _ _ _ _ (λ r e q f over low. let late = over.late in omega (arith, low));
  origin = inl refl;
}

pub loop-rise-preserved : goal.loop-rise-preserved
loop-rise-preserved g c =
    let price = g.C.Costs.price c.args.self.now.costs.now in let place = g.C.Places.place c.args.self.now.costs.now in
    let rises = c.args.self.now.rises in let before = c.args.self.now.before.items in let after = c.args.self.now.after.items in
    let i = c.loop-rise.rise in let more = c.with_steps_to_rise-least.ensures in
    let Q : ℕ → Type 0 = λ x. (x ≡ c.args.best) ⊎ OtherWay price place rises before after c.args.asked x in
    record {
      kept = omega (arith, more.kept, c.loop-rise.invariant.kept);
      least = elsewhere_more price place rises before after c.args.asked (λ r e q f. q < i) (λ r e q f. q ≡ i) (λ r e q f. q < i + 1) c.loop-rise.least _
          c.loop-rise.invariant.least more.kept more.least
          (λ r e q f over low. elim (cases_lt q i) [ inl lt ↦ inl lt | inr le ↦ inr (omega arith) ]);
      origin = elim more.origin [ inl same ↦ subst Q (sym same) c.loop-rise.invariant.origin | inr h ↦ inr h ];
    }

pub returns-clause-least : goal.returns-clause-least
returns-clause-least g c =
    elsewhere_all _ _ _ _ _ _ (λ r e q f. q < c.loop-rise.rise) (λ r e q f. Unit {0}) _ c.loop-rise.invariant.least
    (λ r e q f over _. let early = over.early in let near = over.near in let last = over.last in
    omega (arith, c.loop-rise-test.false, c.saturating_add-far.ensures, c.requires.few))
