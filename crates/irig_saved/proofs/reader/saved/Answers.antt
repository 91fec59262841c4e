use Rattle.irig_saved.proofs.SavedParts.{past_stops, future_stops, tail_stops, head_stops, saved_reads}
use Rattle.irig_saved.proofs.{Carried.stopped, FirstSteps.past_reached, FirstSteps.future_reached}
use Rattle.irig_saved.proofs.reader.saved.Goals as goal

pub returns-in-Err : goal.returns-in-Err
returns-in-Err c = c.in-Err.ensures

pub returns-in-Err-counted_steps : goal.returns-in-Err-counted_steps
returns-in-Err-counted_steps c =
    let text = c.args.text.now in
    let f = c.in-Ok.head.0 in
    let cursor = c.in-Ok.head.1 in
    let placed = c.in-Ok.head.2.now in
    let marked = c.marks.result.1.now in
    stopped c.in-Err-counted_steps.stop
    (λ rest s. head_stops text placed rest f cursor c.in-Ok.ensures.2 c.in-Ok.ensures.0 c.in-Ok.ensures.1
    (tail_stops placed marked rest c.marks.result.0 c.marks.ensures.0 c.marks.ensures.1 (past_stops marked rest s)))
    (λ begun. past_reached text placed marked f.0 f.1 cursor c.marks.result.0 c.in-Ok.ensures.2 c.in-Ok.ensures.0 c.in-Ok.ensures.1
    c.marks.ensures.0 c.marks.ensures.1 begun)
    c.in-Err-counted_steps.ensures

pub returns-in-Err-counted_steps-2 : goal.returns-in-Err-counted_steps-2
returns-in-Err-counted_steps-2 c =
    let text = c.args.text.now in
    let f = c.in-Ok.head.0 in
    let cursor = c.in-Ok.head.1 in
    let placed = c.in-Ok.head.2.now in
    let marked = c.marks.result.1.now in
    let past = c.in-Ok-counted_steps.read in
    stopped c.in-Err-counted_steps-2.stop
    (λ rest s. head_stops text placed rest f cursor c.in-Ok.ensures.2 c.in-Ok.ensures.0 c.in-Ok.ensures.1
    (tail_stops placed marked rest c.marks.result.0 c.marks.ensures.0 c.marks.ensures.1
    (future_stops marked past.1.now rest past.0 c.in-Ok-counted_steps.ensures s)))
    (λ begun. future_reached text placed marked f.0 f.1 cursor c.marks.result.0 past.1.now past.0
    c.in-Ok.ensures.2 c.in-Ok.ensures.0 c.in-Ok.ensures.1
    c.marks.ensures.0 c.marks.ensures.1 c.in-Ok-counted_steps.ensures begun)
    c.in-Err-counted_steps-2.ensures

pub returns : goal.returns
returns c =
    saved_reads _ c.args.text.now c.in-Ok-counted_steps-2.read.1.now (record {
      placed = c.in-Ok.head.2.now;
      marked = c.marks.result.1.now;
      undone = c.in-Ok-counted_steps.read.1.now;
      head = c.in-Ok.ensures.2;
      expression = c.in-Ok.ensures.0;
      number = c.in-Ok.ensures.1;
      letters = c.marks.ensures.0;
      marks = c.marks.ensures.1;
      past = c.in-Ok-counted_steps.ensures;
      future = c.in-Ok-counted_steps-2.ensures;
    })
