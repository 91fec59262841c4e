use Rattle.irig_recording.proofs.PulseText.{pair_told}
use Rattle.irig_recording.proofs.kept_pulse.pair.Goals as goal

pub returns-clause-tens : goal.returns-clause-tens
returns-clause-tens c = (pair_told c.args.number c.requires).0

pub returns-clause-ones : goal.returns-clause-ones
returns-clause-ones c = (pair_told c.args.number c.requires).1
