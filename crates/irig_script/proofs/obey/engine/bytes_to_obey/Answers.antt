use Rattle.std.proofs.Common.{◌<◌, take, length, arith, length-take, sym, ◌∙◌}
use Rattle.irig_script.proofs.ObeyLemmas.Reads.{end_none, end_read, end_some}
use Rattle.irig_script.proofs.obey.engine.bytes_to_obey.Goals as goal

pub returns-then-count-ne0 : goal.returns-then-count-ne0
returns-then-count-ne0 c = λ text h.
    let some : 0 < length (take c.args.count c.args.buffer.now) = omega (arith, c.requires, c.if-count-ne0.true, length-take c.args.count c.args.buffer.now) in
    end_read text _ some

pub returns-then-is_empty : goal.returns-then-is_empty
returns-then-is_empty c = λ text h. rw c.if-count-ne0.false (end_none text (sym (c.is_empty.ensures text h) ∙ c.if-is_empty.true))

pub returns : goal.returns
returns c = λ text h. rw c.if-count-ne0.false (end_some text (sym (c.is_empty.ensures text h) ∙ c.if-is_empty.false))
