use Rattle.std.proofs.Common.{arith}
use Rattle.irig_edit.proofs.EditLemmas.GeneratedPulses.{element_is, elements_room, elements_step, elements_all}
use Rattle.irig_edit.proofs.edits.frames.put_frame.Goals as goal

pub put-requires : goal.put-requires
put-requires c =
    elements_room c.args.format c.args.start c.args.k c.args.elements.now c.args.pulses.now c.loop-element.pulses c.loop-element.element
    c.loop-element.invariant c.loop-element-test.true c.requires.room

pub loop-element-preserved : goal.loop-element-preserved
loop-element-preserved c =
    elements_step c.args.format c.args.start c.args.k c.args.elements.now c.args.pulses.now c.loop-element.pulses c.put.new.self c.loop-element.element _
    c.loop-element.invariant c.requires.last c.put.ensures
    (element_is c.args.format c.args.start c.args.k c.args.elements.now c.loop-element.element c.interval-interval.result c.nominal-width.result
    c.interval-interval.ensures.value c.nominal-width.ensures.value)

pub returns : goal.returns
returns c =
    elements_all c.args.format c.args.start c.args.k c.args.elements.now c.args.pulses.now c.loop-element.pulses c.loop-element.element c.loop-element.invariant
    (omega (arith, c.loop-element-test.false, c.loop-element.auto.element-end))
