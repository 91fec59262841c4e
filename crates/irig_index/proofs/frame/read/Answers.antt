use Rattle.std.proofs.Common.{ap}
use Rattle.irig_index.specs.declared.record.Verdict.TheVariants.{Read}
use Rattle.irig_index.proofs.frame.read.Goals as goal

pub returns-clause-verdict : goal.returns-clause-verdict
returns-clause-verdict c =
    λ frame long ones. ap (λ d. Read d.0 d.1) (c.decode_ones-note.ensures frame long (c.ones.ensures frame long ones))
