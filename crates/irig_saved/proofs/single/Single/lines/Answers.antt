use Rattle.std.proofs.Common.{rules}
use Rattle.irig_saved.proofs.Texts.{length-pulse_lines}
use Rattle.irig_saved.proofs.single.Single.lines.Goals as goal

pub overflow_add-result : goal.overflow_add-result
overflow_add-result c =
    let same = length-pulse_lines c.in-Splice.put in
    search (rules, same)

pub returns-in-Splice : goal.returns-in-Splice
returns-in-Splice c =
    let same = length-pulse_lines c.in-Splice.put in
    search (rules, same)
