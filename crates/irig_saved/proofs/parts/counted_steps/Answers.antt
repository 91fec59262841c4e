use Rattle.irig_saved.specs.{Ranges.ManySteps, Ranges.AreSteps, SavedText.steps_lines, SavedText.counted_lines, Leading.BeginsSome, Leading.BeginsSteps}
use Rattle.irig_saved.proofs.ChangeParts.{counted_reads, counted_stops, counted_line_stops, no_counted_stops}
use Rattle.irig_saved.proofs.{Carried.reparsed, FirstSteps.counted_begins}
use Rattle.irig_saved.proofs.parts.counted_steps.Goals as goal

pub returns-in_default : goal.returns-in_default
returns-in_default c = no_counted_stops c.args.head.now c.args.text.now c.in_default.ensures

pub returns-in_default-counted : goal.returns-in_default-counted
returns-in_default-counted c = counted_line_stops c.args.head.now c.args.text.now c.in-Some.line.now c.in-Some.next.now c.requires c.in-Some.ensures.0
    c.in-Some.ensures.1 c.in_default-counted.ensures

pub returns : goal.returns
returns c =
    let n = c.in-Some-counted.count in
    let head = c.args.head.now in
    let text = c.args.text.now in
    let line = c.in-Some.line.now in
    let next = c.in-Some.next.now in
    reparsed (ManySteps n) AreSteps steps_lines (counted_lines head) (BeginsSome n) (BeginsSteps head) text next c.steps.result
    (λ ss rest r. counted_reads head text line next rest n ss c.in-Some.ensures.0 c.in-Some-counted.ensures.0 c.in-Some-counted.ensures.1 r)
    (λ rest s. counted_stops head text line next rest n c.requires c.in-Some.ensures.0 c.in-Some-counted.ensures.0 c.in-Some-counted.ensures.1 s)
    (λ some. counted_begins head text line next n c.in-Some.ensures.0 c.in-Some-counted.ensures.0 c.in-Some-counted.ensures.1 some)
    c.steps.ensures
