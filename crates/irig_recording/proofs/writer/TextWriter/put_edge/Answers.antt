use Rattle.std.proofs.Common.{◌++◌, ap, arith, length, length-append}
use Rattle.irig_recording.specs.FileText.{time_line, level_line}
use Rattle.irig_recording.proofs.TextLength.{at_ok, length-time_line}
use Rattle.irig_recording.proofs.writer.TextWriter.put_edge.Goals as goal

pub returns-clause-enough : goal.returns-clause-enough
returns-clause-enough c = λ early room.
    let ok = c.put_lines.ensures.enough (omega (arith, room)) in
    let text = at_ok c.put_lines.result ok c.put_lines.ensures.text in (
      ok,
      omega (
        arith,
        ap length text,
        length-append c.args.text.now.items (time_line c.args.edge ++ level_line c.args.high),
        length-append (time_line c.args.edge) (level_line c.args.high),
        length-time_line c.args.edge early,
        c.args.text.now.ok.0,
        c.put_lines.new.text.ok.0,
      ),
    )
