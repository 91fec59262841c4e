use Rattle.irig_safety.proofs.MeaningLemmas.{safe_means}
use Rattle.irig_safety.proofs.law.safe_frames_are_kept_or_borne_out.Goals as goal

pub returns : goal.returns
returns c = safe_means
