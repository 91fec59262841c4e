use Rattle.std.proofs.Common.{◌≡◌, ◌*◌, inl, inr, subst, sym, arith}
use Rattle.irig_explaining.specs.{Sure.IsOther, Turned.turned}
use Rattle.irig_explaining.proofs.{Elsewhere.elsewhere_less, Placed.placed}
use Rattle.irig_explaining.proofs.Others.{other_without, other_over}
use Rattle.irig_explaining.proofs.tables.Tables.sure_below.Goals as goal

pub without_step-requires-clause-tables : goal.without_step-requires-clause-tables
without_step-requires-clause-tables g c =
    let price = g.C.Costs.price c.args.self.now.costs.now in (
      (price, rw c.as_slice-before.ensures.value c.requires.full.before_least),
      (turned price c.args.self.now.rises.count, rw c.as_slice-after.ensures.value c.requires.full.after_least),
    )

pub without_step-requires-clause-most : goal.without_step-requires-clause-most
without_step-requires-clause-most g c = omega (arith, c.with_steps-best.ensures.kept, c.skipped-none.ensures.exact)

pub returns-clause-sure : goal.returns-clause-sure
returns-clause-sure g c =
    let price = g.C.Costs.price c.args.self.now.costs.now in let place = g.C.Places.place c.args.self.now.costs.now in
    let rises = c.args.self.now.rises in let before = c.args.self.now.before.items in let after = c.args.self.now.after.items in
    let no = rw (c.as_slice-before.ensures.value, c.as_slice-after.ensures.value) at c.without_step.ensures.least in
    placed price place rises before after c.args.asked c.without_step.result c.without_step.result c.requires.full no (omega arith)
    (elsewhere_less price place rises before after c.args.asked _ c.with_steps-best.result _ c.with_steps-best.ensures.least c.without_step.ensures.kept)

pub returns-clause-exact : goal.returns-clause-exact
returns-clause-exact g c =
    let price = g.C.Costs.price c.args.self.now.costs.now in let place = g.C.Places.place c.args.self.now.costs.now in
    let rises = c.args.self.now.rises in let a = c.args.asked in
    let before = c.args.self.now.before.items in let after = c.args.self.now.after.items in
    let origin = rw (c.as_slice-before.ensures.value, c.as_slice-after.ensures.value) at c.without_step.ensures.origin in
    let steps = c.with_steps-best.result in
    let best : IsOther price place rises a steps = elim c.with_steps-best.ensures.origin [
      | inl none ↦
          let all : steps ≡ rises.skip * rises.count = omega (arith, none, c.skipped-none.ensures.exact) in
          other_without price place rises before after a steps c.requires.full c.requires.there (inl all)
      | inr over ↦ other_over price place rises before after a steps c.requires.full over
    ] in
    elim origin [
      | inl same ↦ subst (IsOther price place rises a) (sym same) best
      | inr ends ↦ other_without price place rises before after a c.without_step.result c.requires.full c.requires.there ends
    ]
