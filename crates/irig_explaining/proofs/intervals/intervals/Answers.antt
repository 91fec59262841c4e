use Rattle.std.proofs.Common.{take}
use Rattle.irig_explaining.proofs.Placing.{steady}
use Rattle.irig_explaining.proofs.intervals.intervals.Goals as goal

pub returns-clause-steady : goal.returns-clause-steady
returns-clause-steady c =
    rw c.loop-place.invariant (steady c.args.nominal c.args.spread c.args.distances.now c.args.middles.now
    (take c.loop-place.place-index c.args.places.now) c.requires.some)
