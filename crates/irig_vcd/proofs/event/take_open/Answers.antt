use Rattle.std.proofs.Common.{subst}
use Rattle.irig_vcd.specs.Code.Scanned.{Keeps}
use Rattle.irig_vcd.proofs.event.take_open.Goals as goal

pub returns-in-Code-clause-takes : goal.returns-in-Code-clause-takes
returns-in-Code-clause-takes c = λ unit s k. c.take_code.ensures.takes unit s c.args.journals.now k

pub returns-in-Comment-clause-takes : goal.returns-in-Comment-clause-takes
returns-in-Comment-clause-takes c = λ unit s k.
    c.take_comment.ensures.read c.args.code.now unit s (subst (λ p. Keeps s c.args.journals.now p) c.in-Comment.is k)

pub returns-in-Rest-clause-takes : goal.returns-in-Rest-clause-takes
returns-in-Rest-clause-takes c = λ unit s k.
    c.take_rest.ensures.read c.args.code.now unit s (subst (λ p. Keeps s c.args.journals.now p) c.in-Rest.is k)
