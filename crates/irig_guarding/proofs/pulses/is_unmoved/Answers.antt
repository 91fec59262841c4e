use Rattle.irig_guarding.proofs.pulses.is_unmoved.Goals as goal

pub returns-clause-same : goal.returns-clause-same
returns-clause-same c = λ known. c.is_as_before.ensures c.if-not-is_as_before.false
