use Rattle.std.proofs.Common.{refl}
use Rattle.irig_stamps.specs.declared.fault.RunFault.TheVariants.{OutOfMemory}
use Rattle.irig_stamps.proofs.RunSteps.{begun, stopped}
use Rattle.irig_stamps.proofs.aligning.align_track.Goals as goal

pub returns-in_default-clause-ends : goal.returns-in_default-clause-ends
returns-in_default-clause-ends g c start read = stopped _ _ _ start _ _ _ _ _ _ _ _ OutOfMemory (begun _ _ _ start _) read refl

pub returns-in_default-of-clause-ends : goal.returns-in_default-of-clause-ends
returns-in_default-of-clause-ends g c start read = stopped _ _ _ start _ _ _ _ _ _ _ _ OutOfMemory (begun _ _ _ start _) read refl
