use Rattle.irig_guarding.proofs.PrintedLemmas.{printed_is_obeyed}
use Rattle.irig_guarding.proofs.law.printed_scripts_are_obeyed.Goals as goal

pub returns : goal.returns
returns c = printed_is_obeyed c.calls_give_back.ensures.outcome
