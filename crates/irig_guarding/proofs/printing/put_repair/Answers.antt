use Rattle.irig_guarding.proofs.GuardLemmas.{on_ok, shows_kept, shows_so}
use Rattle.irig_guarding.proofs.printing.put_repair.Goals as goal

pub returns-in-None : goal.returns-in-None
returns-in-None c = on_ok c.put_lines.result c.put_lines.ensures.text (λ e. shows_kept _ c.args.dropped _ _ c.in-None.is c.put_lines.ensures.plain e)

pub returns-in-Some : goal.returns-in-Some
returns-in-Some c = on_ok c.put_dropped.result c.put_dropped.ensures (λ h. shows_so _ c.args.dropped _ _ _ c.in-Some.is h)
