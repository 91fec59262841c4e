use Rattle.std.proofs.Common.{◌≡◌, ◌+◌, ◌-◌, ℕ, slice_get, arith, ap, ◌∙◌, subst}
use Rattle.irig_law.specs.{Points.AreSaid}
use Rattle.irig_law.proofs.{Printed.time-few, SaidPoints.long-points, SaidPoints.points-from, SaidPoints.said-more}
use Rattle.irig_law.proofs.part.middle_points.Goals as goal

pub stretch_points-requires-clause-times : goal.stretch_points-requires-clause-times
stretch_points-requires-clause-times c =
    let are = c.requires.frames in (
      are.minute (c.args.part - 1) c.frame_at-from.result c.frame_at-from.ensures,
      are.minute c.args.part c.frame_at-to.result c.frame_at-to.ensures,
    )

pub stretch_points-requires-clause-order : goal.stretch_points-requires-clause-order
stretch_points-requires-clause-order c =
    let are = c.requires.frames in
    let next : c.args.part - 1 + 1 ≡ c.args.part = omega (arith, c.requires.part) in
    let inside = are.inside c.args.part c.frame_at-to.result c.frame_at-to.ensures in (
      are.order (c.args.part - 1) c.frame_at-from.result c.frame_at-to.result c.frame_at-from.ensures
          (ap (λ (j : ℕ). slice_get c.args.frames.now j) next ∙ c.frame_at-to.ensures),
      omega (arith, inside, c.requires.few),
    )

pub joined-requires : goal.joined-requires
joined-requires c =
    let f = c.args.format in
    let ps = c.args.pulses.now.track.pulses in
    let frames = c.args.frames.now in
    let are = c.requires.frames in
    let n = c.args.part - 1 in
    let a = c.frame_at-from.result in
    let b = c.frame_at-to.result in
    let next : n + 1 ≡ c.args.part = omega (arith, c.requires.part) in
    let order = are.order n a b c.frame_at-from.ensures (ap (λ (j : ℕ). slice_get frames j) next ∙ c.frame_at-to.ensures) in
    let inside = are.inside c.args.part b c.frame_at-to.ensures in
    let long = long-points f c.args.century ps frames are n a c.frame_at-from.ensures c.args.before.now c.requires.before in
    let from = points-from f c.args.century ps frames are n a c.frame_at-from.ensures c.args.before.now c.requires.before in
    let many = c.in_ok-list.ensures.each in
    let few = time-few f in
    record {
      from = (from, omega (arith, long));
      long = omega (arith, long, many, order);
      small = omega (arith, long, order, inside, few, c.requires.few);
    }

pub returns-clause-said : goal.returns-clause-said
returns-clause-said c =
    let f = c.args.format in
    let ps = c.args.pulses.now.track.pulses in
    let frames = c.args.frames.now in
    let n = c.args.part - 1 in
    let next : n + 1 ≡ c.args.part = omega (arith, c.requires.part) in
    subst (λ (m : ℕ). AreSaid f c.args.century ps frames m c.joined.result) next
    (said-more f c.args.century ps frames c.requires.frames n c.frame_at-from.result c.frame_at-from.ensures c.args.before.now c.requires.before
    c.frame_at-to.result (ap (λ (j : ℕ). slice_get frames j) next ∙ c.frame_at-to.ensures) c.in_ok-list.list.items c.joined.result
    c.in_ok-list.ensures.points c.in_ok-list.ensures.each c.joined.ensures.from c.joined.ensures.joined)
