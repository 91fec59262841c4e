use Rattle.std.proofs.Common.{arith, sym, ◌∙◌, ◌+◌, subst}
use Rattle.irig_recording.specs.Recording.{RisesFrom}
use Rattle.irig_track.proofs.{RisingLists.RisesFrom-flipped, RisingLists.Under-more, Turns.stays_then, Turns.stays_up}
use Rattle.irig_track.proofs.toggle.toggle_right.Goals as goal

pub go_on-rise-requires-clause-rises : goal.go_on-rise-requires-clause-rises
go_on-rise-requires-clause-rises c = subst (RisesFrom 0) (sym c.begin-start.ensures.begun.edges) (RisesFrom-flipped 0 c.args.a _ (omega arith) c.requires.rises)

pub go_on-rise-requires-clause-left : goal.go_on-rise-requires-clause-left
go_on-rise-requires-clause-left c = Under-more (c.args.a + 1) c.args.b _ (omega arith) c.begin-start.ensures.begun.left

pub finish-requires-clause-rises : goal.finish-requires-clause-rises
finish-requires-clause-rises c = subst (RisesFrom 0) (sym (c.go_on-rise.ensures.edges ∙ c.begin-start.ensures.begun.edges))
    (RisesFrom-flipped 0 c.args.a _ (omega arith) c.requires.rises)

pub returns-clause-stays : goal.returns-clause-stays
returns-clause-stays c = stays_then c.args.b _ c.begin-start.new.pulses _ (stays_up c.args.a c.args.b _ _ (omega arith) c.begin-start.ensures.begun.stays)
    (stays_then c.args.b _ c.go_on-rise.new.pulses _ c.go_on-rise.ensures.stays c.finish.ensures.stays)
