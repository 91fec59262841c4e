use Rattle.std.proofs.Common.{◌++◌, true, false, ap, arith, length, length-append}
use Rattle.irig_recording.specs.FileText.{lines_at}
use Rattle.irig_recording.proofs.TextLength.{at_ok, length-lines_at}
use Rattle.irig_recording.proofs.writer.TextWriter.put_pulse.Goals as goal

pub returns-clause-enough : goal.returns-clause-enough
returns-clause-enough c = λ early late room.
    let ok = c.put.ensures.enough (omega (arith, room)) in
    let text = at_ok c.put.result ok c.put.ensures.text in (
      ok,
      omega (
        arith,
        ap length text,
        length-append (c.args.text.now.items ++ lines_at true c.args.rise) (lines_at false c.args.fall),
        length-append c.args.text.now.items (lines_at true c.args.rise),
        length-lines_at true c.args.rise early,
        length-lines_at false c.args.fall late,
        c.args.text.now.ok.0,
        c.put.new.text.ok.0,
      ),
    )
