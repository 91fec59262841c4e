use Rattle.irig_saved.proofs.{Carried.stopped, ChangeParts.step_stops, ChangeParts.step_line_stops, ChangeParts.no_step_stops, FirstSteps.begins_step}
use Rattle.irig_saved.proofs.parts.step.Goals as goal

pub returns-in_default : goal.returns-in_default
returns-in_default c = no_step_stops c.args.text.now c.in_default.ensures

pub returns-in_default-counted : goal.returns-in_default-counted
returns-in_default-counted c = step_line_stops c.args.text.now c.in-Some.line.now c.in-Some.next.now c.in-Some.ensures.0 c.in-Some.ensures.1
    c.in_default-counted.ensures

pub returns-in-Err : goal.returns-in-Err
returns-in-Err c =
    stopped c.in-Err.stop
    (λ rest s. step_stops c.args.text.now c.in-Some.line.now c.in-Some.next.now rest c.in-Some-counted.cursor c.in-Some.ensures.0 c.in-Some-counted.ensures.0
    c.in-Some-counted.ensures.1 s)
    (λ m. begins_step c.args.text.now c.in-Some.line.now c.in-Some.next.now c.in-Some-counted.cursor c.in-Some.ensures.0 c.in-Some-counted.ensures.0
    c.in-Some-counted.ensures.1) c.in-Err.ensures
