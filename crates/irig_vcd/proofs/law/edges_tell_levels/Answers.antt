use Rattle.irig_vcd.proofs.LevelLaw.{levels_told}
use Rattle.irig_vcd.proofs.law.edges_tell_levels.Goals as goal

pub returns : goal.returns
returns c = λ wire bytes recording is. levels_told wire bytes recording is
