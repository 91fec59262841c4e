use Rattle.std.proofs.Common.{◌≡◌, ◌+◌, ℕ, List, length, arith, ap, ◌∙◌, subst}
use Rattle.irig_recording.specs.declared.pulse.Pulse.{Pulse}
use Rattle.irig_law.specs.Points.{ArePoints, AreSaid, part_begin}
use Rattle.irig_law.proofs.SaidPoints.{begins-end, begins-rise}
use Rattle.irig_timed.specs.{Elements.AreWith, Runs.AreRunsTo}
use Rattle.irig_timed.proofs.RunPoints.{no-runs, none-in, part-more}
use Rattle.irig_timed.proofs.known.track_runs.Goals as goal

pub loop-part-init : goal.loop-part-init
loop-part-init c = record {
  track = λ i. c.args.pulses.now.track;
  said = λ n part. absurd (omega (arith, part));
  runs = no-runs c.args.format c.args.pulses.now.track.pulses c.new-runs.result.items c.new-runs.ensures.items;
  points = λ k x. (
    λ a. absurd (none-in c.new-runs.result.items c.new-runs.ensures.items k x a),
    λ h. absurd (let less = h.0 in omega (arith, less)),
  );
}

pub loop-part-preserved : goal.loop-part-preserved
loop-part-preserved c =
    let f = c.args.format in
    let century = c.args.century in
    let ps = c.args.pulses.now.track.pulses in
    let frames = c.args.frames.now in
    let inv = c.loop-part.invariant in
    let part = c.loop-part.part in
    let p = c.in_ok-points.points in
    let old = c.loop-part.runs.items in
    let new = c.add_points.new.list.items in
    let same : c.loop-part.pulses.track.pulses ≡ ps = ap (λ t. t.pulses) inv.track in
    let after = ap (λ t. t.pulses) c.in_ok-points.ensures.pulses ∙ same in
    let from = c.part_begin-from.ensures ∙ ap (λ (n : ℕ). part_begin n frames part) c.len-all.ensures.len in
    let to = c.part_begin-to.ensures ∙ ap (λ (n : ℕ). part_begin n frames (part + 1)) c.len-all.ensures.len in
    let points : ArePoints f century ps frames part p =
    subst (λ (q : List Pulse). ArePoints f century q frames part p) same c.in_ok-points.ensures.points in
    let added : AreWith f ps old new p (part_begin (length ps) frames part) (part_begin (length ps) frames (part + 1)) =
    subst (λ (q : List Pulse). AreWith f q old new p (part_begin (length ps) frames part) (part_begin (length ps) frames (part + 1))) after
    (subst (λ (k : ℕ). AreWith f c.part_points.new.pulses.track.pulses old new p k (part_begin (length ps) frames (part + 1))) from
    (subst (λ (k : ℕ). AreWith f c.part_points.new.pulses.track.pulses old new p c.part_begin-from.result k) to c.in_ok-add_points.ensures.with)) in
    record {
      track = c.in_ok-add_points.ensures.pulses ∙ (c.in_ok-points.ensures.pulses ∙ inv.track);
      said = λ n at inside. (let here : part ≡ n = omega (arith, at) in
          subst (λ (m : ℕ). AreSaid f century ps frames m p) here
          (subst (λ (q : List Pulse). AreSaid f century q frames part p) same (c.in_ok-points.ensures.said (omega (arith, here, inside)))));
      runs = added.runs;
      points = part-more f century ps frames part p old new points added (begins-rise ps frames c.requires.frames part) inv.points;
    }

pub add_points-requires-clause-order : goal.add_points-requires-clause-order
add_points-requires-clause-order c =
    let frames = c.args.frames.now in
    let part = c.loop-part.part in
    let from = c.part_begin-from.ensures ∙ ap (λ (n : ℕ). part_begin n frames part) c.len-all.ensures.len in
    let to = c.part_begin-to.ensures ∙ ap (λ (n : ℕ). part_begin n frames (part + 1)) c.len-all.ensures.len in
    let rise = begins-rise c.args.pulses.now.track.pulses frames c.requires.frames part in
    omega (arith, from, to, rise)

pub returns-clause-points : goal.returns-clause-points
returns-clause-points c k x =
    let ps = c.args.pulses.now.track.pulses in
    let frames = c.args.frames.now in
    let past : c.loop-part.part ≡ length frames + 1 = omega (arith, c.loop-part.auto.part-end, c.loop-part-test.false) in
    let end = ap (part_begin (length ps) frames) past ∙ begins-end ps frames in
    let is = c.loop-part.invariant.points k x in (
      λ a. (is.0 a).1,
      λ h. is.1 (let inside = h.point.inside in omega (arith, inside, end), h),
    )

pub returns-clause-runs : goal.returns-clause-runs
returns-clause-runs c =
    let ps = c.args.pulses.now.track.pulses in
    let frames = c.args.frames.now in
    let past : c.loop-part.part ≡ length frames + 1 = omega (arith, c.loop-part.auto.part-end, c.loop-part-test.false) in
    subst (λ (n : ℕ). AreRunsTo c.args.format ps n c.loop-part.runs.items) (ap (part_begin (length ps) frames) past ∙ begins-end ps frames)
    c.loop-part.invariant.runs
