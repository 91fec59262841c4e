use Rattle.irig_recording.proofs.WrittenText.{first_high}
use Rattle.irig_recording.proofs.writer.begins_high.Goals as goal

pub returns-then-len-gt0 : goal.returns-then-len-gt0
returns-then-len-gt0 c = first_high c.get.result c.args.pulses.now.items c.get.ensures
