use Rattle.std.proofs.Common.{None, sym}
use Rattle.std.proofs.lemmas.Option.{get_or_from_slice_get}
use Rattle.irig_script.proofs.PrintLemmas.MarkLines.{mark_named}
use Rattle.irig_script.proofs.obey.pulse_numbers.mark.Goals as goal

pub returns : goal.returns
returns c =
    let marks = c.args.session.now.state.marks in
    let there = mark_named marks c.byte.result c.args.letter.now c.mark_time.result c.byte.ensures.value c.mark_time.ensures in
    sym (get_or_from_slice_get marks c.args.letter.now c.mark_time.result None there)
