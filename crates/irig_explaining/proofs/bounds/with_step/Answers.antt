use Rattle.std.proofs.Common.{◌≡◌, ◌⊎◌, ℕ, sym, subst, inl, inr, arith}
use Rattle.irig_explaining.specs.declared.{claim.Kind.TheVariants.Next, claim.Kind.TheVariants.Step, claim.Kind.TheVariants.Jump}
use Rattle.irig_explaining.specs.Ways.{OtherKind}
use Rattle.irig_explaining.proofs.bounds.with_step.Goals as goal

pub returns-clause-least : goal.returns-clause-least
returns-clause-least g c =
    let next = c.with_kind-next.ensures in let step = c.with_kind-step.ensures in let jump = c.with_kind.ensures in
    record {
      least = elim [
        | Next ↦ λ unlike. omega (arith, next.least unlike, step.kept, jump.kept)
        | Step ↦ λ unlike. omega (arith, step.least unlike, jump.kept)
        | Jump ↦ λ unlike. jump.least unlike
      ];
    }

pub returns-clause-origin : goal.returns-clause-origin
returns-clause-origin g c =
    let price = g.C.Costs.price c.args.costs.now in let place = g.C.Places.place c.args.costs.now in
    let P : ℕ → Type 0 = λ x. (x ≡ c.args.best) ⊎ OtherKind price place c.args.asked c.args.spent c.args.from.rise c.args.from.element
    c.args.to.rise c.args.to.element x in
    let next : P c.with_kind-next.result = elim c.with_kind-next.ensures.origin [
      | inl e ↦ inl e
      | inr h ↦ inr (record { kind = Next; unlike = h.0; exact = h.1 })
    ] in
    let step : P c.with_kind-step.result = elim c.with_kind-step.ensures.origin [
      | inl e ↦ subst P (sym e) next
      | inr h ↦ inr (record { kind = Step; unlike = h.0; exact = h.1 })
    ] in
    elim c.with_kind.ensures.origin [
      | inl e ↦ subst P (sym e) step
      | inr h ↦ inr (record { kind = Jump; unlike = h.0; exact = h.1 })
    ]

pub returns-then-best-spent-clause-least : goal.returns-then-best-spent-clause-least
returns-then-best-spent-clause-least g c = record {
  least = λ k unlike. omega (arith, c.if-best-spent.true, c.least-least.ensures c.args.from.element c.args.to.element k);
}
