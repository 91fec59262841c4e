use Rattle.irig_saved.proofs.{Carried.stopped, ChangeParts.group_stops, ChangeParts.one_stops, ChangeParts.no_change_stops}
use Rattle.irig_saved.proofs.parts.change.Goals as goal

pub returns-in_default : goal.returns-in_default
returns-in_default c = no_change_stops c.args.text.now c.in_default.ensures

pub returns-in-Err : goal.returns-in-Err
returns-in-Err c =
    stopped c.in-Err.stop
    (λ rest s. group_stops c.args.text.now c.in-Some.line.now c.in-Some.next.now rest c.in-Some-counted.count c.in-Some.ensures.0 c.in-Some.ensures.1
    c.in-Some-counted.ensures.0 c.in-Some-counted.ensures.1 s)
    (λ m. tt) c.in-Err.ensures

pub returns-in-Err-single : goal.returns-in-Err-single
returns-in-Err-single c =
    stopped c.in-Err-single.stop
    (λ rest s. one_stops c.args.text.now c.in-Some.line.now c.in-Some.next.now rest c.in-Some.ensures.0 c.in-Some.ensures.1 c.in_default-counted.ensures s)
    (λ m. tt) c.in-Err-single.ensures
