use Rattle.irig_saved.proofs.Unique.{same_journal}
use Rattle.irig_saved.proofs.law.readable.Goals as goal

pub returns : goal.returns
returns c = same_journal c.args.saved.now c.args.other.now
