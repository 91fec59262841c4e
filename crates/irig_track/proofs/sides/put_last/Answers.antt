use Rattle.std.proofs.Common.{rules, subst, sym}
use Rattle.irig_track.specs.{Edges.pulse, Sides.Wrote}
use Rattle.irig_track.proofs.Turns.{wrote_step}
use Rattle.irig_track.proofs.sides.put_last.Goals as goal

pub returns-clause-wrote : goal.returns-clause-wrote
returns-clause-wrote c = subst (Wrote (pulse c.args.rise c.args.fall) c.args.pulses.now) (sym c.put.ensures)
    (wrote_step c.args.pulses.now (pulse c.args.rise c.args.fall) (search rules))
