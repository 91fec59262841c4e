use Rattle.std.proofs.Common.{◌≡◌, Option, sym, ap, ◌∙◌}
use Rattle.std.specs.Prelude.{is_some}
use Rattle.std.proofs.lemmas.Bool.{both_ways}
use Rattle.irig_law.specs.Elements.{element_in}
use Rattle.irig_law.specs.declared.point.Point.{Point}
use Rattle.irig_law.proofs.ends.is_sure.Goals as goal

pub returns-then-hour-clause-sure : goal.returns-then-hour-clause-sure
returns-then-hour-clause-sure c =
    let none = c.none_denies-none.ensures.none in
    let hour : c.is_known-hour.result ≡ is_some (element_in c.args.format c.args.frame.now c.args.row.now.is_back 100) =
    c.is_known-hour.ensures ∙ ap (λ (o : Option Point). is_some o) c.element_in.ensures.point in (
      λ yes. record { hour = sym hour ∙ c.if-hour.true; none = none.0 yes },
      λ s. none.1 s.none,
    )

pub returns-else-hour-clause-sure : goal.returns-else-hour-clause-sure
returns-else-hour-clause-sure c =
    let hour : c.is_known-hour.result ≡ is_some (element_in c.args.format c.args.frame.now c.args.row.now.is_back 100) =
    c.is_known-hour.ensures ∙ ap (λ (o : Option Point). is_some o) c.element_in.ensures.point in (
      λ no. absurd cc,
      λ s. absurd (both_ways c.is_known-hour.result c.if-hour.false (hour ∙ s.hour)),
    )
