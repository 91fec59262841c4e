use Rattle.irig_vcd.proofs.WrittenJournal.{plain_back, journal_back}
use Rattle.irig_vcd.proofs.law.read_back_parts.Goals as goal

pub returns : goal.returns
returns c = record {
  plain = plain_back c.args.recording.now c.length.ensures.lawful;
  journal = λ lines is. journal_back c.args.recording.now lines c.length.ensures.lawful is;
}
