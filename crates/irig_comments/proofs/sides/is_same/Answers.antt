use Rattle.irig_comments.proofs.SameFrames.{test_is}
use Rattle.irig_comments.proofs.sides.is_same.Goals as goal

pub returns-clause-exact : goal.returns-clause-exact
returns-clause-exact c = test_is c.args.one.now c.args.other.now c.is_same_by_parts.result c.is_same_by_parts.ensures
