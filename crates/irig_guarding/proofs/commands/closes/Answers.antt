use Rattle.irig_guarding.proofs.DropLemmas.{closes_none, closes_so}
use Rattle.irig_guarding.proofs.commands.closes.Goals as goal

pub returns-in-Some : goal.returns-in-Some
returns-in-Some c = closes_so _ c.in-Some.command _ c.in-Some.ensures c.is_closing.ensures

pub returns-in-None : goal.returns-in-None
returns-in-None c = closes_none _ c.in-None.ensures
