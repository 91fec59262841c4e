use Rattle.irig_guarding.proofs.GuardLemmas.{remarked_more}
use Rattle.irig_guarding.proofs.printing.put_comments.Goals as goal

pub loop-line-preserved : goal.loop-line-preserved
loop-line-preserved c = remarked_more c.args.lines.now _ _ _ _ _ c.loop-line-test.true c.line-item.is c.loop-line.invariant c.in_ok-put_comment.ensures
