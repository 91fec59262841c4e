use Rattle.std.proofs.Common.{◌≡◌, ◌+◌, drop, length}
use Rattle.irig_saved.specs.SavedText.{steps_lines}
use Rattle.irig_saved.proofs.steps.Steps.lines.Given as goal

abbrev pub invariant-loop-step : goal.invariant-loop-step
invariant-loop-step l = l.lines + length (steps_lines (drop l.step-index l.step-items)) ≡ length (steps_lines l.step-items)
