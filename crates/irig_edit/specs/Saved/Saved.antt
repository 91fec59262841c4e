-- How a saved journal names the changes of a session: docs/FORMATS.md, "The saved journal". This
-- project's own.
use Rattle.irig_journal.specs.History.{Step}
use Rattle.irig_saved.specs.{declared.change.Change.Change, declared.step.SavedStep.SavedStep}

-- a step with the cursor of the state that it leads to
abbrev pub saved_step : Step Change → SavedStep
saved_step s = record { cursor = s.cursor; change = s.change }
