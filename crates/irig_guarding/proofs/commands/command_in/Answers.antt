use Rattle.irig_guarding.proofs.commands.command_in.Goals as goal

pub returns-in-Err : goal.returns-in-Err
returns-in-Err c = λ asked asks. c.in-Err.ensures.bad asked asks.1
