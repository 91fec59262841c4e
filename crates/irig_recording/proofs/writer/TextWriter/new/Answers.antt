use Rattle.std.proofs.Common.{refl}
use Rattle.irig_recording.proofs.writer.TextWriter.new.Goals as goal

pub invariant_of-result : goal.invariant_of-result
invariant_of-result c = (record { level = 48; pad = _; ends = refl }, c.new.ensures)
