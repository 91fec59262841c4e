use Rattle.std.proofs.Common.{arith}
use Rattle.std.proofs.lemmas.{Bool.lt-ltb, Bool.Decides.nat_tests}
use Rattle.irig_recording.specs.Edges.{edges_kept}
use Rattle.irig_recording.proofs.PulseEdges.{least, most}
use Rattle.irig_recording.proofs.edges.Edges.has_room.Goals as goal

pub returns : goal.returns
unfolding edges_kept
returns c =
    let e = c.self.inside in
    let few = most e.pulses.items e.is_open e.rise c.args.self.now c.self.view_is in
    let many = least e.pulses.items e.is_open e.rise c.args.self.now c.self.view_is in (
      λ room. grind (arith, nat_tests, few, room, c.gap_at.ensures.place, c.self.invariant.1),
      λ fits. lt-ltb c.gap_at.result c.args.most (omega (arith, many, fits, c.gap_at.ensures.place, c.self.invariant.1)),
    )
