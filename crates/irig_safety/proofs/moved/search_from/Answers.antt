use Rattle.std.proofs.Common.{arith}
use Rattle.irig_safety.proofs.MovedLemmas.{rest_found}
use Rattle.irig_safety.proofs.moved.search_from.Goals as goal

pub returns-then-place-new-clause-rest : goal.returns-then-place-new-clause-rest
returns-then-place-new-clause-rest c = rest_found c.args.new.now _ c.args.place (omega (arith, c.if-place-new.true))
