use Rattle.std.proofs.Common.{◌≡◌, ◌+◌, ◌/◌, ◌^◌, ap, sym, ◌∙◌, cond}
use Rattle.irig_codes.proofs.{OnesSteps.and-gathered, gathering.Gathering.and.Goals.then-is_one, gathering.Gathering.and.Goals.else-is_one}
use Rattle.irig_codes.proofs.gathering.Gathering.and.Goals as goal

pub returns : goal.returns
returns c =
    let chosen : c.if-is_one.result ≡ cond c.args.is_one (2 ^ 99) 0 = elim c.if-is_one.branch [
      | then-is_one w ↦ (w.result-is ∙ ap (λ t. cond t (2 ^ 99) 0) (sym w.if-is_one.true))
      | else-is_one w ↦ (w.result-is ∙ ap (λ t. cond t (2 ^ 99) 0) (sym w.if-is_one.false))
    ] in
    λ es e less p q. and-gathered c.self.inside.bits c.args.is_one es e less (p ∙ sym c.self.view_is) q ∙ ap (λ m. c.self.inside.bits / 2 + m) (sym chosen)
