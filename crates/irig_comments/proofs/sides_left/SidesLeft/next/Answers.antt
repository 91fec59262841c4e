use Rattle.std.proofs.Common.{arith}
use Rattle.irig_comments.specs.Framed.{shown_frames}
use Rattle.irig_comments.proofs.SidesSteps.{next_both, next_first, next_lost, next_made, next_none, next_second}
use Rattle.irig_comments.proofs.sides_left.SidesLeft.next.Goals as goal

pub returns-in-None-None : goal.returns-in-None-None
returns-in-None-None c =
    let xs = shown_frames c.self.inside.before.now in
    let ys = shown_frames c.self.inside.after.now in
    let none = next_none xs ys c.self.inside.past_before c.self.inside.past_after c.args.self.now c.shown-before.result c.shown-after.result c.self.view_is
    c.shown-before.ensures.value c.shown-after.ensures.value c.in-None-None.is-0 c.in-None-None.is-1 in
    (none, none)

pub returns-in-None-Some : goal.returns-in-None-Some
returns-in-None-Some c =
    let xs = shown_frames c.self.inside.before.now in
    let ys = shown_frames c.self.inside.after.now in
    next_made xs ys c.self.inside.past_before c.self.inside.past_after c.args.self.now c.shown-before.result c.shown-after.result c.self.view_is
    c.shown-before.ensures.value c.shown-after.ensures.value c.in-None-Some.field-0-1
    c.in-None-Some.is-0 c.in-None-Some.is-1

pub returns-in-Some-None : goal.returns-in-Some-None
returns-in-Some-None c =
    let xs = shown_frames c.self.inside.before.now in
    let ys = shown_frames c.self.inside.after.now in
    next_lost xs ys c.self.inside.past_before c.self.inside.past_after c.args.self.now c.shown-before.result c.shown-after.result c.self.view_is
    c.shown-before.ensures.value c.shown-after.ensures.value c.in-Some-None.field-0-0
    c.in-Some-None.is-0 c.in-Some-None.is-1

pub returns-then-now-was : goal.returns-then-now-was
returns-then-now-was c =
    let xs = shown_frames c.self.inside.before.now in
    let ys = shown_frames c.self.inside.after.now in
    next_second xs ys c.self.inside.past_before c.self.inside.past_after c.args.self.now c.shown-before.result c.shown-after.result c.self.view_is
    c.shown-before.ensures.value c.shown-after.ensures.value c.in-Some-Some.was
    c.in-Some-Some.now c.in-Some-Some.is-0 c.in-Some-Some.is-1 (omega (arith, c.if-now-was.true))

pub returns-then-was-now : goal.returns-then-was-now
returns-then-was-now c =
    let xs = shown_frames c.self.inside.before.now in
    let ys = shown_frames c.self.inside.after.now in
    next_first xs ys c.self.inside.past_before c.self.inside.past_after c.args.self.now c.shown-before.result c.shown-after.result c.self.view_is
    c.shown-before.ensures.value c.shown-after.ensures.value c.in-Some-Some.was
    c.in-Some-Some.now c.in-Some-Some.is-0 c.in-Some-Some.is-1 c.shown-after.ensures.order (omega (arith, c.if-was-now.true))

pub returns-else-was-now : goal.returns-else-was-now
returns-else-was-now c =
    let xs = shown_frames c.self.inside.before.now in
    let ys = shown_frames c.self.inside.after.now in
    next_both xs ys c.self.inside.past_before c.self.inside.past_after c.args.self.now c.shown-before.result c.shown-after.result c.self.view_is
    c.shown-before.ensures.value c.shown-after.ensures.value c.in-Some-Some.was
    c.in-Some-Some.now c.in-Some-Some.is-0 c.in-Some-Some.is-1 c.shown-after.ensures.order (omega (arith, c.if-now-was.false, c.if-was-now.false))
