use Rattle.std.proofs.Common.{◌∙◌}
use Rattle.irig_stamps.proofs.MovedPoints.{with_sign-is}
use Rattle.irig_stamps.proofs.numbers.sized.Goals as goal

pub returns : goal.returns
returns c = c.with_sign.ensures ∙ with_sign-is _ _ _ c.size_in.ensures
