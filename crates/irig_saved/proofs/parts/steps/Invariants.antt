use Rattle.irig_saved.specs.{Ranges.ManySteps, SavedText.steps_lines, Reading.Reads}
use Rattle.irig_saved.proofs.parts.steps.Given as goal

-- one step for each turn is before the rest
abbrev pub invariant-loop : goal.invariant-loop
invariant-loop l = Reads (ManySteps l.counter) steps_lines l.text l.steps l.rest
