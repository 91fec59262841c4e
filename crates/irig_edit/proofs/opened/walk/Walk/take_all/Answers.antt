use Rattle.std.proofs.Common.{rules, ◌∷◌, length, ◌≡◌, ◌+◌, ◌<◌, ◌^◌, ◌∙◌, true, false, reverse, ap, arith}
use Rattle.std.proofs.lemmas.Bool.{MatchBool-at_false, MatchBool-at_true}
use Rattle.irig_journal.specs.History.{History}
use Rattle.irig_saved.specs.{declared.change.Change.Change, SavedText.step_lines}
use Rattle.irig_edit.specs.{Opened.Taken.steps_of, State.State.State}
use Rattle.irig_edit.proofs.OpenedLemmas.TakenSteps.{TakenSoFar, lines_short, taken_begin, taken_more, taken_next, taken_stops}
use Rattle.irig_edit.proofs.{OpenedLemmas.Walks.future_gone, opened.walk.Walk.take_all.Goals.In-Some}
use Rattle.irig_edit.proofs.opened.walk.Walk.take_all.Goals as goal

pub take-requires : goal.take-requires
take-requires c =
    let so_far = c.loop-step.invariant in
    record { ahead = ap (λ (h : History State Change). h.future) so_far.stands ∙ future_gone c.args.self.now (steps_of so_far.done) c.requires.ahead }

-- the steps so far were taken, and this one is the next
so_far : (c : In-Some)
    → TakenSoFar c.args.self.now (reverse c.args.steps) c.loop-step.self (c.in-Some.step ∷ reverse c.pop.new.self) c.loop-step.before
so_far c =
    taken_next c.args.self.now c.loop-step.self (reverse c.args.steps) c.loop-step.steps c.pop.new.self c.in-Some.step c.loop-step.before
    c.loop-step.invariant c.in-Some.ensures

-- its lines are among all lines
short : (c : In-Some) → c.loop-step.before + length (step_lines c.in-Some.step) < 2 ^ 63
short c =
    lines_short c.args.self.now c.loop-step.self (reverse c.args.steps) (reverse c.pop.new.self) c.in-Some.step c.loop-step.before (so_far c)
    c.requires.lines

pub lines-requires : goal.lines-requires
lines-requires c = omega (arith, short (goal.at.lines-requires c).In-Some)

pub overflow_add-behind : goal.overflow_add-behind
overflow_add-behind c =
    let within : c.loop-step.before + c.lines.result < 2 ^ 63 = omega (arith, short (goal.at.overflow_add-behind c).In-Some, c.lines.ensures) in
    search (rules, within)

pub loop-step-preserved : goal.loop-step-preserved
loop-step-preserved c =
    let is : c.in-Ok-true.field-0 ≡ true = search rules in
    let took = MatchBool-at_true _ _ is c.in-Ok-true.ensures in
    taken_more c.args.self.now c.loop-step.self c.take.new.self (reverse c.args.steps) (reverse c.pop.new.self) c.loop-step.before
    (c.loop-step.before + c.lines.result)
    c.in-Some.step (so_far (goal.at.loop-step-preserved c).In-Some) took.0 took.1 (ap (λ n. c.loop-step.before + n) c.lines.ensures)

pub returns-in-Ok-false : goal.returns-in-Ok-false
returns-in-Ok-false c =
    let is : c.in-Ok-false.field-0 ≡ false = search rules in
    taken_stops c.args.self.now c.loop-step.self (reverse c.args.steps) (reverse c.pop.new.self) c.loop-step.before (c.loop-step.before + c.lines.result)
    c.in-Some.step (so_far (goal.at.returns-in-Ok-false c).In-Some) (MatchBool-at_false _ _ is c.in-Ok-false.ensures)
    (ap (λ n. c.loop-step.before + n) c.lines.ensures) c.requires.lines

pub returns-in-Err : goal.returns-in-Err
returns-in-Err c =
    taken_begin c.args.self.now c.loop-step.self (reverse c.args.steps) (reverse c.pop.new.self) c.loop-step.before c.in-Some.step
    (so_far (goal.at.returns-in-Err c).In-Some) c.in-Err.ensures
