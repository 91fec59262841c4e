use Rattle.std.proofs.Common.{ap}
use Rattle.irig_vcd.specs.Scales.{joined, scale_or_fault}
use Rattle.irig_vcd.proofs.Steps.{none_long}
use Rattle.irig_vcd.proofs.timescale.unit_of_words.Goals as goal

pub returns-then-not-text : goal.returns-then-not-text
returns-then-not-text c = λ words h. ap scale_or_fault (none_long (joined words) (h.long c.if-not-text.true))
