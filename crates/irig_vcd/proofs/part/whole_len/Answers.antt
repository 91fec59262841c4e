use Rattle.std.proofs.Common.{rules}
use Rattle.irig_vcd.proofs.PartWords.{outside_at}
use Rattle.irig_vcd.proofs.part.whole_len.Goals as goal

pub returns-else-not-is_space-clause-outside : goal.returns-else-not-is_space-clause-outside
returns-else-not-is_space-clause-outside c = outside_at c.args.bytes.now c.loop-at.at c.loop-at.invariant.within (λ some. search rules)
