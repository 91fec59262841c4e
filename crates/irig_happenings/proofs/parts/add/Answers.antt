use Rattle.std.proofs.Common.{◌∙◌, sym}
use Rattle.irig_happenings.proofs.Walks.{two_more}
use Rattle.irig_happenings.proofs.parts.add.Goals as goal

pub returns-clause-exact : goal.returns-clause-exact
returns-clause-exact c = λ later.
    rw (c.in_ok-push-2.ensures.items, c.in_ok-push.ensures.items, c.stretch.ensures, c.happening.ensures, c.margin_at-margin.ensures, c.begun.ensures)
    (two_more c.args.prices.now c.args.margins.now c.args.run c.args.to later c.args.parts.now.items (sym c.is_plain.ensures ∙ c.if-is_plain.false))
