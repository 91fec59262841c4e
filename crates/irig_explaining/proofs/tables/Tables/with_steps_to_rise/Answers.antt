use Rattle.std.proofs.Common.{refl, ◌≡◌, ◌⊎◌, ◌+◌, ◌-◌, ◌<◌, ℕ, sym, subst, inl, inr, arith}
use Rattle.std.proofs.lemmas.Bool.{cases_lt}
use Rattle.irig_explaining.specs.Ways.{OtherWay}
use Rattle.irig_explaining.proofs.Elsewhere.{elsewhere_none, elsewhere_more, elsewhere_all}
use Rattle.irig_explaining.proofs.tables.Tables.with_steps_to_rise.Goals as goal

pub loop-back-init : goal.loop-back-init
loop-back-init g c = record {
  kept = omega arith;
  least = elsewhere_none _ _ _ _ _ _ _ _ (λ r e q f over low. let early = over.early in let far = low.0 in omega arith);
  origin = inl refl;
}

pub loop-back-preserved : goal.loop-back-preserved
loop-back-preserved g c =
    let price = g.C.Costs.price c.args.self.now.costs.now in let place = g.C.Places.place c.args.self.now.costs.now in
    let rises = c.args.self.now.rises in let before = c.args.self.now.before.items in let after = c.args.self.now.after.items in
    let i = c.loop-back.back in let t = c.args.asked.interval in let q2 = c.args.later in
    let more = c.with_steps_between-least.ensures in
    let Q : ℕ → Type 0 = λ x. (x ≡ c.args.best) ⊎ OtherWay price place rises before after c.args.asked x in
    record {
      kept = omega (arith, more.kept, c.loop-back.invariant.kept);
      least = elsewhere_more price place rises before after c.args.asked (λ r e q f. (t < r + i) × (q ≡ q2))
          (λ r e q f. (r ≡ t - i) × (q ≡ q2)) (λ r e q f. (t < r + (i + 1)) × (q ≡ q2))
          c.loop-back.least _ c.loop-back.invariant.least more.kept more.least
          (λ r e q f over low. let far = low.0 in elim (cases_lt t (r + i)) [ inl less ↦ inl (less, low.1) | inr le ↦ inr (omega arith, low.1) ]);
      origin = elim more.origin [ inl same ↦ subst Q (sym same) c.loop-back.invariant.origin | inr h ↦ inr h ];
    }

pub returns-clause-least : goal.returns-clause-least
returns-clause-least g c =
    elsewhere_all _ _ _ _ _ _ (λ r e q f. (c.args.asked.interval < r + c.loop-back.back) × (q ≡ c.args.later)) (λ r e q f. q ≡ c.args.later) _
    c.loop-back.invariant.least
    (λ r e q f over here. let early = over.early in let near = over.near in
    (omega (arith, here, c.loop-back-test.false, c.saturating_sub-first.ensures, c.saturating_sub-count.ensures), here))
