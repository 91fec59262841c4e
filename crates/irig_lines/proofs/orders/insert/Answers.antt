use Rattle.irig_lines.proofs.orders.insert.Goals as goal

pub returns-in_default-times : goal.returns-in_default-times
returns-in_default-times c = λ asked a. c.in_default-times.ensures (a.0, a.1) a.4
