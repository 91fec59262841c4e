use Rattle.std.proofs.Common.{◌∙◌, Some, ap, sym}
use Rattle.irig_guarding.proofs.seen.is_as_before.Goals as goal

pub returns-in-Some : goal.returns-in-Some
returns-in-Some c = λ same. sym c.frame_at.ensures ∙ (c.in-Some.is ∙ ap Some (c.is_same.ensures.0 same))
