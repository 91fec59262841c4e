use Rattle.irig_lines.proofs.LineOrders.{means_one}
use Rattle.irig_script.proofs.law.lines_ask_for_one_command.Goals as goal

pub returns : goal.returns
returns c = record { same = means_one }
