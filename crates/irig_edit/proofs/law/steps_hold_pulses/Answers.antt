use Rattle.irig_edit.proofs.EditLemmas.Holds.{edits_hold}
use Rattle.irig_edit.proofs.law.steps_hold_pulses.Goals as goal

pub returns : goal.returns
returns c = edits_hold
