use Rattle.irig_guarding.proofs.GuardLemmas.{on_ok, shows_dropped}
use Rattle.irig_guarding.proofs.printing.put_dropped.Goals as goal

pub returns : goal.returns
returns c = on_ok c.put_comments.result c.put_comments.ensures (λ r. shows_dropped _ c.args.reason _ _ _ c.in_ok-put_reason.ensures r)
