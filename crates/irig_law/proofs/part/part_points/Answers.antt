use Rattle.std.proofs.Common.{◌≡◌, ◌-◌, ℕ, length, IfOk, arith, sym, subst}
use Rattle.std.proofs.lemmas.Result.{IfOk-weaker}
use Rattle.irig_law.specs.Points.{ArePoints, AreSaid}
use Rattle.irig_law.proofs.{SaidPoints.said-are, TrueTimes.part_true}
use Rattle.irig_law.proofs.part.part_points.Goals as goal

pub returns-then-part-eq0-clause-points : goal.returns-then-part-eq0-clause-points
returns-then-part-eq0-clause-points c =
    let f = c.args.format in
    let ps = c.args.pulses.now.track.pulses in
    let frames = c.args.frames.now in
    subst (λ (n : ℕ). IfOk c.first_points.result (λ p. ArePoints f c.args.century ps frames n p)) (sym c.if-part-eq0.true)
    (IfOk-weaker c.first_points.result _ _ (λ p said. said-are f c.args.century ps frames c.requires.frames 0 p (said c.args.century))
    c.first_points.ensures.said)

pub returns-then-part-eq0-clause-true_times : goal.returns-then-part-eq0-clause-true_times
returns-then-part-eq0-clause-true_times c =
    IfOk-weaker c.first_points.result _ _
    (λ p points. part_true c.args.format c.args.century c.args.pulses.now.track.pulses c.args.frames.now c.args.part p points)
    (returns-then-part-eq0-clause-points c)

pub last_points-requires-clause-before : goal.last_points-requires-clause-before
last_points-requires-clause-before c = (
  c.args.century,
  c.requires.before (length c.args.frames.now - 1) (omega (arith, c.if-part-eq0.false, c.if-part-frames.false, c.requires.part)),
)

pub returns-then-part-frames-clause-points : goal.returns-then-part-frames-clause-points
returns-then-part-frames-clause-points c =
    let f = c.args.format in
    let ps = c.args.pulses.now.track.pulses in
    let frames = c.args.frames.now in
    IfOk-weaker c.middle_points.result _ _ (λ p said. said-are f c.args.century ps frames c.requires.frames c.args.part p said)
    c.middle_points.ensures.said

pub returns-then-part-frames-clause-true_times : goal.returns-then-part-frames-clause-true_times
returns-then-part-frames-clause-true_times c =
    IfOk-weaker c.middle_points.result _ _
    (λ p points. part_true c.args.format c.args.century c.args.pulses.now.track.pulses c.args.frames.now c.args.part p points)
    (returns-then-part-frames-clause-points c)

pub returns-else-part-frames-clause-points : goal.returns-else-part-frames-clause-points
returns-else-part-frames-clause-points c =
    let f = c.args.format in
    let ps = c.args.pulses.now.track.pulses in
    let frames = c.args.frames.now in
    let last : length frames ≡ c.args.part = omega (arith, c.if-part-frames.false, c.requires.part) in
    let said : AreSaid f c.args.century ps frames (length frames - 1) c.args.before.now =
    c.requires.before (length frames - 1) (omega (arith, c.if-part-eq0.false, last)) in
    IfOk-weaker c.last_points.result _ _ (λ p h. subst (λ (n : ℕ). ArePoints f c.args.century ps frames n p) last (h c.args.century said))
    c.last_points.ensures.points

pub returns-else-part-frames-clause-true_times : goal.returns-else-part-frames-clause-true_times
returns-else-part-frames-clause-true_times c =
    IfOk-weaker c.last_points.result _ _
    (λ p points. part_true c.args.format c.args.century c.args.pulses.now.track.pulses c.args.frames.now c.args.part p points)
    (returns-else-part-frames-clause-points c)
