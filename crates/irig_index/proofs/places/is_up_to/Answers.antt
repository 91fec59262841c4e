use Rattle.std.proofs.Common.{arith}
use Rattle.std.proofs.lemmas.Bool.Decides.{nat_tests}
use Rattle.irig_index.specs.Sides.{shown}
use Rattle.irig_index.proofs.ShownLemmas.{begins_at}
use Rattle.irig_index.proofs.places.is_up_to.Goals as goal

pub returns-then-k-len : goal.returns-then-k-len
returns-then-k-len c = λ no.
    begins_at c.args.last (shown c.args.pulses c.args.records.now) c.args.k c.record_at.result c.record_at.ensures (grind (arith, nat_tests))
