use Rattle.std.proofs.Common.{arith}
use Rattle.irig_law.proofs.SaidPoints.{said-first}
use Rattle.irig_law.proofs.part.first_points.Goals as goal

pub begin_points-requires : goal.begin_points-requires
begin_points-requires c =
    let are = c.requires.frames in
    let inside = are.inside 0 c.frame_at-first.result c.frame_at-first.ensures in
    record {
      minute = are.minute 0 c.frame_at-first.result c.frame_at-first.ensures;
      inside = omega (arith, inside, c.requires.few);
    }

pub returns-clause-said : goal.returns-clause-said
returns-clause-said c century =
    said-first c.args.format century c.args.pulses.now.track.pulses c.args.frames.now c.frame_at-first.result c.in_ok-points.points
    c.frame_at-first.ensures c.in_ok-points.ensures.from c.in_ok-points.ensures.each c.in_ok-points.ensures.points
