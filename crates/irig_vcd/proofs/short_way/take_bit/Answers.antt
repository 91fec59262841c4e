use Rattle.std.proofs.Common.{ap, ◌∙◌}
use Rattle.irig_vcd.specs.Times.{micros_of}
use Rattle.irig_vcd.proofs.ScanSteps.{leads_short, on_passed, on_put, put_bit, puts_passed}
use Rattle.irig_vcd.proofs.short_way.take_bit.Goals as goal

pub returns-in-Err-clause-scans : goal.returns-in-Err-clause-scans
returns-in-Err-clause-scans c = λ words end j p takes l.
    leads_short c.args.code.now c.args.unit end l.s words c.micros.result
    (c.micros.ensures.value ∙ ap (micros_of c.args.unit) l.here.traced.last) (c.in-Err.ensures.memory l.s.changes l.here.traced.follows) l.left

pub returns-in-Ok-clause-time : goal.returns-in-Ok-clause-time
returns-in-Ok-clause-time c =
    let put = c.in-Ok.ensures in
    let on = on_put c.args.unit c.args.trace.now c.put.new.self c.args.clock c.micros.result c.args.high c.requires.time
    c.micros.ensures.value put.time put.ok in
    on_passed c.take_ahead.result c.args.code.now c.args.unit c.put.new.self c.take_ahead.new.trace c.args.clock c.args.tokens.now c.take_ahead.new.tokens on
    c.take_ahead.ensures.passes

pub returns-in-Ok-clause-scans : goal.returns-in-Ok-clause-scans
returns-in-Ok-clause-scans c = λ words end j p takes l.
    let put = c.in-Ok.ensures in
    puts_passed c.take_ahead.result c.args.code.now c.args.unit end c.put.new.self c.take_ahead.new.trace c.args.clock j p
    c.args.tokens.now c.take_ahead.new.tokens
    c.take_ahead.ensures.passes c.take_ahead.ensures.memory (put_bit c.args.code.now c.args.unit end c.args.trace.now c.put.new.self c.args.clock j p
    words c.args.tokens.now c.args.high c.micros.result c.requires.some takes c.micros.ensures.value put.time put.ok l)
