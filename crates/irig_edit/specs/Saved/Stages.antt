-- The stages of a saved session's text while it is given in parts: docs/FORMATS.md, "The saved
-- journal". This project's own.
use Rattle.std.specs.Prelude.{ℕ, List, [], codes}
use Rattle.irig_edit.specs.declared.saved.stage.Stage.{Stage}
use Rattle.irig_edit.specs.declared.saved.stage.Stage.TheVariants.{Dump, Back, On, Over}

-- what is left of a stage itself: the dump, or steps
abbrev pub stage_left : Stage → List ℕ → List ℕ → List ℕ → List ℕ
stage_left Dump dump back on = dump
stage_left Back dump back on = back
stage_left On dump back on = on
stage_left Over dump back on = []

-- what comes between a stage and the next: the beginning of the section, the count of the steps
-- on, and the end of the section
abbrev pub text_after : Stage → List ℕ → List ℕ → List ℕ
text_after Dump opening middle = opening
text_after Back opening middle = middle
text_after On opening middle = codes "$end\n"
text_after Over opening middle = []

-- the stage after a stage
abbrev pub next_stage : Stage → Stage
next_stage Dump = Back
next_stage Back = On
next_stage On = Over
next_stage Over = Over
