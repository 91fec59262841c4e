use Rattle.std.proofs.Common.{subst, sym}
use Rattle.irig_track.specs.Sides.{Took}
use Rattle.irig_track.proofs.Turns.{took_step}
use Rattle.irig_track.proofs.sides.take_next.Goals as goal

pub returns-clause-took : goal.returns-clause-took
returns-clause-took c p is = subst (Took p c.args.pulses.now) (sym (c.take_right.ensures.rest c.requires)) (took_step c.args.pulses.now p is)
