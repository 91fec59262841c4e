use Rattle.std.proofs.Common.{◌≡◌, ◌++◌, ℕ}
use Rattle.irig_edit.specs.declared.saved.stage.Stage.TheVariants.{Dump, Back, On, Over}
use Rattle.irig_edit.specs.{Saved.SavedParts.middle_text, Saved.SavedParts.opening_text, Saved.SavedParts.parts_left, declared.saved.stage.Stage.Stage}
use Rattle.irig_edit.proofs.saved.text.SavedTextText.fill.Given as goal

-- how many stages are left
abbrev stages_left : Stage → ℕ
stages_left Dump = 3
stages_left Back = 2
stages_left On = 1
stages_left Over = 0

-- the block, with what is left of the text
abbrev pub invariant-loop-self : goal.invariant-loop-self
invariant-loop-self l =
    l.block.items ++ parts_left l.self-inside.stage l.self-inside.dump
    (opening_text l.self-inside.present.now.state l.self-inside.cursor l.self-inside.journal.now) l.self-inside.back
    (middle_text l.self-inside.journal.now) l.self-inside.on
    ≡ l.fn.block.items ++ l.fn.self

abbrev pub decreases-loop-self : goal.decreases-loop-self
decreases-loop-self l = stages_left l.self-inside.stage
