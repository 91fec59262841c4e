use Rattle.std.proofs.Common.{rules}
use Rattle.irig_track.proofs.Places.{pulse_order, pulse_within}
use Rattle.irig_track.proofs.lens.Lens.pulse.Goals as goal

pub returns-clause-order : goal.returns-clause-order
returns-clause-order c =
    let order = pulse_order 0 c.args.index c.get.result c.self.inside.pulses.now.items c.self.invariant.rises c.get.ensures in
    let within = pulse_within c.self.inside.micros c.args.index c.get.result c.self.inside.pulses.now.items c.self.invariant.within c.get.ensures in
    (order, search rules)
