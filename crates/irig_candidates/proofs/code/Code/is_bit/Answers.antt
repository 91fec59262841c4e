use Rattle.std.proofs.Common.{is_some, ap, ◌∙◌}
use Rattle.irig_candidates.proofs.BitLemmas.{is_bit-carried}
use Rattle.irig_candidates.proofs.code.Code.is_bit.Goals as goal

pub returns : goal.returns
returns c = c.is_some.ensures ∙ ap is_some c.row.ensures ∙ is_bit-carried c.args.self.now c.args.element
