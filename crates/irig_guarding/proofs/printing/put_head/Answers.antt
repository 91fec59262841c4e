use Rattle.irig_guarding.proofs.{GuardLemmas.on_ok, ReasonLemmas.head_none, ReasonLemmas.head_some}
use Rattle.irig_guarding.proofs.printing.put_head.Goals as goal

pub returns-then-is_empty : goal.returns-then-is_empty
returns-then-is_empty c = on_ok c.put_line.result c.put_line.ensures (λ e. head_none c.args.fine.now _ _ _ c.is_empty.ensures c.if-is_empty.true e)

pub returns-else-is_empty : goal.returns-else-is_empty
returns-else-is_empty c = head_some c.args.fine.now c.args.out.now.items _ c.is_empty.ensures c.if-is_empty.false
