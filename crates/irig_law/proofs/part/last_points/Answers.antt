use Rattle.std.proofs.Common.{◌≡◌, ◌+◌, ◌-◌, ℕ, length, arith, subst}
use Rattle.irig_law.specs.{Points.ArePoints}
use Rattle.irig_law.proofs.{Printed.time-few, SaidPoints.last-points, SaidPoints.long-points, SaidPoints.points-from}
use Rattle.irig_law.proofs.part.last_points.Goals as goal

pub end_points-requires : goal.end_points-requires
end_points-requires c =
    let are = c.requires.frames in
    let n = length c.args.frames.now - 1 in
    let inside = are.inside n c.frame_at-last.result c.frame_at-last.ensures in
    record {
      minute = are.minute n c.frame_at-last.result c.frame_at-last.ensures;
      inside = omega (arith, inside);
    }

pub joined-requires : goal.joined-requires
joined-requires c =
    let f = c.args.format in
    let ps = c.args.pulses.now.track.pulses in
    let frames = c.args.frames.now in
    let are = c.requires.frames in
    let n = length frames - 1 in
    let a = c.frame_at-last.result in
    let inside = are.inside n a c.frame_at-last.ensures in
    let long = long-points f c.requires.before.0 ps frames are n a c.frame_at-last.ensures c.args.before.now c.requires.before.1 in
    let from = points-from f c.requires.before.0 ps frames are n a c.frame_at-last.ensures c.args.before.now c.requires.before.1 in
    let many = c.in_ok-list.ensures.each in
    let few = time-few f in
    record {
      from = (from, omega (arith, long));
      long = omega (arith, long, many, inside, few);
      small = omega (arith, long, inside, few, c.requires.few);
    }

pub returns-clause-points : goal.returns-clause-points
returns-clause-points c century said =
    let f = c.args.format in
    let ps = c.args.pulses.now.track.pulses in
    let frames = c.args.frames.now in
    let n = length frames - 1 in
    let last : n + 1 ≡ length frames = omega (arith, c.requires.some) in
    subst (λ (m : ℕ). ArePoints f century ps frames m c.joined.result) last
    (last-points f century ps frames c.requires.frames n c.frame_at-last.result c.frame_at-last.ensures c.args.before.now said last
    c.in_ok-list.list.items c.joined.result c.in_ok-list.ensures.points c.joined.ensures.from c.joined.ensures.joined)
