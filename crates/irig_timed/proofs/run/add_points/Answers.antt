use Rattle.std.proofs.Common.{◌≡◌, List, arith, sym, ap, ◌∙◌, subst}
use Rattle.irig_recording.specs.declared.pulse.Pulse.{Pulse}
use Rattle.irig_timed.specs.Elements.{AreWith, IsWith}
use Rattle.irig_timed.specs.Runs.{AreRunsTo}
use Rattle.irig_timed.proofs.RunPoints.{none-with, points-more}
use Rattle.irig_timed.proofs.run.add_points.Goals as goal

pub loop-number-init : goal.loop-number-init
loop-number-init c = record {
  order = omega arith;
  track = λ i. c.args.pulses.now.track;
  added = none-with c.args.format c.args.pulses.now.track.pulses c.args.list.now.items c.args.points.now c.args.from c.requires.runs;
}

pub add-requires-clause-runs : goal.add-requires-clause-runs
add-requires-clause-runs c =
    let inv = c.loop-number.invariant in
    let same = ap (λ t. t.pulses) inv.track in
    subst (λ (q : List Pulse). AreRunsTo c.args.format q c.loop-number.number c.loop-number.list.items) (sym same) inv.added.runs

pub loop-number-preserved : goal.loop-number-preserved
loop-number-preserved c =
    let f = c.args.format in
    let ps = c.args.pulses.now.track.pulses in
    let inv = c.loop-number.invariant in
    let number = c.loop-number.number in
    let same : c.loop-number.pulses.track.pulses ≡ ps = ap (λ t. t.pulses) inv.track in
    let one = subst (λ (q : List Pulse). IsWith f q c.loop-number.list.items c.add.new.list.items number c.kept-known.result) same c.in_ok-add.ensures.with in
    let order = inv.order in
    record {
      order = omega (arith, order);
      track = c.in_ok-add.ensures.pulses ∙ inv.track;
      added = points-more f ps c.args.points.now c.args.list.now.items c.loop-number.list.items c.add.new.list.items c.args.from number c.kept-known.result
          c.at.result c.at.ensures c.kept-known.ensures.kept order one inv.added;
    }

pub returns-clause-with : goal.returns-clause-with
returns-clause-with c =
    let past : c.loop-number.number ≡ c.args.to = omega (arith, c.requires.order, c.loop-number.auto.number-end, c.loop-number-test.false) in
    subst (λ n. AreWith c.args.format c.args.pulses.now.track.pulses c.args.list.now.items c.loop-number.list.items c.args.points.now c.args.from n) past
    c.loop-number.invariant.added
