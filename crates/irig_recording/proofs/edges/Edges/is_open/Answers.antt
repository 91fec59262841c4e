use Rattle.irig_recording.proofs.PulseEdges.{opens}
use Rattle.irig_recording.proofs.edges.Edges.is_open.Goals as goal

pub returns : goal.returns
returns c = opens c.self.inside.pulses.items c.self.inside.is_open c.self.inside.rise c.args.self.now c.self.view_is
