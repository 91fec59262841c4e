use Rattle.std.proofs.Common.{◌+◌, ◌/◌, ◌%◌}
use Rattle.irig_recording.proofs.PulseText.{four_written}
use Rattle.irig_recording.proofs.kept_pulse.put_four.Goals as goal

pub returns-clause-written : goal.returns-clause-written
returns-clause-written c =
    let n = c.args.number in
    four_written c.args.bytes.now c.put_two.new.bytes c.put_two-2.new.bytes c.args.at (48 + n / 100 / 10) (48 + n / 100 % 10) (48 + n % 100 / 10)
    (48 + n % 100 % 10) c.put_two.ensures.written c.put_two-2.ensures.before c.put_two-2.ensures.written
