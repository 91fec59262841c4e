use Rattle.irig_lines.proofs.KnownWords.{finds_none}
use Rattle.irig_lines.proofs.orders.split.Goals as goal

pub returns-in_err-a : goal.returns-in_err-a
returns-in_err-a c = finds_none _ c.from_residual.result _ c.from_residual.ensures.1 (λ asked a. c.in_err-a.ensures (a.1, a.2) a.5)
