use Rattle.irig_stamps.proofs.finding.find.Goals as goal

pub returns-in-Err-clause-fault : goal.returns-in-Err-clause-fault
returns-in-Err-clause-fault g c = (c.in-Err.ensures.fault.0, c.in-Err.ensures.fault.1 c.args.name.now)
