use Rattle.std.proofs.Common.{◌∙◌, arith}
use Rattle.irig_vcd.proofs.PulseSteps.{fewer_left, passes_pulse, passes_then}
use Rattle.irig_vcd.proofs.pulses.take_in_unit.Goals as goal

pub loop-at-preserved : goal.loop-at-preserved
loop-at-preserved c =
    let i = c.loop-at.invariant in
    let b = c.tokens.inside.base in
    let rise = c.in-Some.rise in
    let fall = c.in-Some.fall in
    let up = c.in-Some.ensures.rise in
    let down = c.in-Some.ensures.fall in
    let late = c.in-Some.ensures.late in
    let put = c.in_ok-put_pulse.ensures in
    record {
      back = omega (arith, up.after, down.after, i.back);
      within = omega (arith, up.near, down.near, c.loop-at-test.true);
      here = put.here;
      extent = put.extent ∙ i.extent;
      late = omega (arith, put.time);
      fewer = omega (arith, fewer_left b _ c.loop-at.at _ _ _ rise up, fewer_left b _ rise.end _ _ _ fall down, i.fewer);
      passes = λ s none traced.
          let p = i.passes s none traced in
          passes_then _ c.args.unit s _ _ _ _ _ _ _ p (passes_pulse b c.args.code c.args.unit c.loop-at.clock c.loop-at.trace c.put_pulse.new.self
          _ c.loop-at.at rise fall p.now c.requires.unit up down late.0 late.1 (omega (arith, late.2, i.here.short)) put.ok put.time
          (p.opened ∙ none) p.traced);
    }
