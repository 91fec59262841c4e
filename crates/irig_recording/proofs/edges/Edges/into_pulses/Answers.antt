use Rattle.irig_recording.proofs.PulseEdges.{pulses_even}
use Rattle.irig_recording.proofs.edges.Edges.into_pulses.Goals as goal

pub returns-clause-edges : goal.returns-clause-edges
returns-clause-edges c = pulses_even c.self.inside.pulses.items c.self.inside.is_open c.self.inside.rise c.args.self c.self.view_is c.requires
