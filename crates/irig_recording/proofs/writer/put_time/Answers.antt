use Rattle.std.proofs.Common.{◌∷◌, [], length, decimal, ap, arith, length-append}
use Rattle.irig_recording.proofs.TextLength.{length-time_line}
use Rattle.irig_recording.proofs.writer.put_time.Goals as goal

pub returns-in_err-extend_from_slice-clause-enough : goal.returns-in_err-extend_from_slice-clause-enough
returns-in_err-extend_from_slice-clause-enough c = λ early room.
    absurd (omega (
      arith,
      early,
      room,
      length-time_line c.args.time early,
      length-append (decimal c.args.time) (10 ∷ []),
      c.put_digits-start.ensures.start,
      ap length c.put_digits-start.ensures.written,
      length-append (decimal c.args.time) (10 ∷ []),
      c.in_err-extend_from_slice.ensures.full,
    ))
