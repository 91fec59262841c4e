use Rattle.irig_guarding.proofs.KnownLemmas.{none_known}
use Rattle.irig_guarding.proofs.known.nothing_known.Goals as goal

pub returns : goal.returns
returns c = λ o ps. none_known o ps _ c.loop-index.invariant
