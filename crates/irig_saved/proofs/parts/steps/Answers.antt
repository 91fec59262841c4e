use Rattle.std.proofs.Common.{◌≡◌, ℕ, arith, subst}
use Rattle.irig_saved.specs.{Ranges.IsStep, Ranges.ManySteps, SavedText.step_lines, SavedText.steps_lines, Reading.Reads}
use Rattle.irig_saved.proofs.Repeats.{row_begins, row_next, row_stops}
use Rattle.irig_saved.proofs.{Carried.stopped, ChangeParts.step_family, FirstSteps.step_begins, FirstSteps.steps_begin}
use Rattle.irig_saved.proofs.parts.steps.Goals as goal

pub loop-init : goal.loop-init
loop-init c = rw c.new-steps.ensures (row_begins IsStep step_lines steps_lines step_family c.args.text.now)

pub loop-preserved : goal.loop-preserved
loop-preserved c =
    rw c.in-Ok-push.ensures.pushed (row_next IsStep step_lines steps_lines step_family c.loop.counter c.args.text.now c.loop.steps c.loop.rest.now
    c.in-Ok.read.0 c.in-Ok.read.1.now c.loop.invariant c.in-Ok.ensures)

pub returns-in-Err : goal.returns-in-Err
returns-in-Err c =
    stopped c.in-Err.stop
    (λ rest s. row_stops IsStep step_lines steps_lines step_family c.loop.counter c.args.count c.args.text.now c.loop.steps c.loop.rest.now rest (omega arith)
    c.loop.invariant s)
    (λ first. (omega arith, steps_begin c.loop.counter c.args.text.now c.loop.steps c.loop.rest.now c.loop.invariant first)) c.in-Err.ensures

pub returns-in_default : goal.returns-in_default
returns-in_default c = (
  omega arith,
  steps_begin c.loop.counter c.args.text.now c.loop.steps c.loop.rest.now c.loop.invariant
      (step_begins c.loop.rest.now c.in-Ok.read.1.now c.in-Ok.read.0 c.in-Ok.ensures),
)

pub returns : goal.returns
returns c =
    let end : c.loop.counter ≡ c.args.count = omega arith in
    let P : ℕ → Type 0 = λ n. Reads (ManySteps n) steps_lines c.args.text.now c.loop.steps c.loop.rest.now in
    subst P end c.loop.invariant
