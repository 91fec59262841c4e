use Rattle.irig_lines.specs.declared.command.Command.TheVariants as command
use Rattle.irig_guarding.proofs.DropLemmas.{asks_none, asks_so}
use Rattle.irig_guarding.proofs.commands.ends.Goals as goal

pub returns-in-Some : goal.returns-in-Some
returns-in-Some c = asks_so _ c.in-Some.command command.End _ c.in-Some.ensures c.is_end.ensures

pub returns-in-None : goal.returns-in-None
returns-in-None c = asks_none _ command.End c.in-None.ensures
