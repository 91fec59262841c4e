use Rattle.std.proofs.Common.{◌∙◌, sym}
use Rattle.irig_safety.specs.Widths.{is_outside}
use Rattle.irig_safety.proofs.widths.is_odd.Goals as goal

pub returns-then-is_like_another : goal.returns-then-is_like_another
returns-then-is_like_another c = sym (c.is_like_another.ensures c.if-is_like_another.true)

pub returns : goal.returns
returns c = c.is_outside.ensures ∙ (λ i. is_outside (c.interval.ensures.value i) (c.spread_of-spread.ensures i) (c.width_in.ensures i))
