use Rattle.irig_saved.proofs.lines.pulse.Goals as goal

pub returns-in_default : goal.returns-in_default
returns-in_default c = λ p h e. c.in_default.ensures (p.rise, p.fall) h e
