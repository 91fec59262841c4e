use Rattle.irig_vcd.proofs.LongRecordings.{long_told, same_long}
use Rattle.irig_vcd.proofs.law.long_recordings_tell_levels.Goals as goal

pub returns : goal.returns
returns c = record {
  same = λ window wire bytes r is. same_long window wire bytes r is;
  level = λ wire bytes r is. long_told wire bytes r is;
}
