use Rattle.irig_guarding.proofs.obeying.obey_inner_line.Goals as goal

pub returns-in-None-clause-stops : goal.returns-in-None-clause-stops
returns-in-None-clause-stops c = λ k. c.in-None.ensures k.0 k.1
