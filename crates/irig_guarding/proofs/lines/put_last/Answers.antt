use Rattle.std.proofs.Common.{refl}
use Rattle.irig_guarding.proofs.TrialLemmas.{lines_one}
use Rattle.irig_guarding.proofs.lines.put_last.Goals as goal

pub returns : goal.returns
returns c = lines_one _ _ _ _ _ c.in_ok-push.ensures.items c.is_empty.ensures c.if-is_empty.false refl
