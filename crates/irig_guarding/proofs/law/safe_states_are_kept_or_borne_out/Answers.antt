use Rattle.irig_guarding.proofs.RisingFrames.{safe_states}
use Rattle.irig_guarding.proofs.law.safe_states_are_kept_or_borne_out.Goals as goal

pub returns : goal.returns
returns c = safe_states
