use Rattle.std.proofs.Common.{◌≡◌, ◌∙◌, List, ap, arith, reverse, subst}
use Rattle.std.proofs.lemmas.List.{reverse-reverse}
use Rattle.irig_journal.specs.History.{History}
use Rattle.irig_saved.specs.{declared.change.Change.Change, declared.step.SavedStep.SavedStep}
use Rattle.irig_edit.specs.declared.opened.taking.NotTaken.{NotTaken}
use Rattle.irig_edit.specs.{Opened.Stops.IsNotTaken, Opened.Taken.CanBegin, Opened.Taken.steps_of, State.State.State}
use Rattle.irig_edit.proofs.OpenedLemmas.TakenSteps.{begin_after, lines-reverse}
use Rattle.irig_edit.proofs.opened.walk.Walk.follow_both.Goals as goal

pub follow-requires-clause-lines : goal.follow-requires-clause-lines
follow-requires-clause-lines c = omega (arith, lines-reverse c.args.past, c.requires.lines.0)

pub returns-in-Err-Memory-follow-clause-memory : goal.returns-in-Err-Memory-follow-clause-memory
returns-in-Err-Memory-follow-clause-memory c = λ _.
    let s = c.args.self.now.state in
    let left = c.turn_round.new.self in
    let steps = reverse c.reverse.new.self in
    let same : left.state ≡ s =
    ap (λ (h : History State Change). h.state) c.turn_round.ensures ∙ ap (λ (h : History State Change). h.state) c.in-Ok.ensures.1 in
    let all : steps ≡ c.args.future = ap reverse c.reverse.ensures ∙ reverse-reverse c.args.future in
    let begin : CanBegin left.state (steps_of steps) =
    subst (λ (why : NotTaken). IsNotTaken left.state steps why) c.in-Err-Memory-follow.field-0-is c.in-Err-Memory-follow.ensures in
    begin_after s (reverse c.args.past) c.args.future c.in-Ok.ensures.0
    (subst (λ (l : List SavedStep). CanBegin s (steps_of l)) all (subst (λ (x : State). CanBegin x (steps_of steps)) same begin))
