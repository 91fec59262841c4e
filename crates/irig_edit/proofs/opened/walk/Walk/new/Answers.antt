use Rattle.irig_edit.specs.State.Places.{places_in}
use Rattle.irig_edit.proofs.opened.walk.Walk.new.Goals as goal

pub invariant_of-result : goal.invariant_of-result
invariant_of-result c = (c.new.ensures.floor, c.new.ensures.ready (places_in c.args.present) c.args.present.state)
