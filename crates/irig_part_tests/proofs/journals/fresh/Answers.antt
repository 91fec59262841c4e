use Rattle.std.proofs.Common.{vec_capacity}
use Rattle.irig_part_tests.proofs.journals.fresh.Goals as goal

pub returns-clause-ready : goal.returns-clause-ready
returns-clause-ready c = c.new.ensures.ready (vec_capacity c.args._stack.now.items) c.args._stack.now.items.items
