-- The changes that the code holds, and what they mean. This project's own.
use Rattle.std.specs.Prelude.{List, map}
use Rattle.irig_journal.specs.Held.Parts.{Alone, Group}
use Rattle.irig_journal.specs.{Held.Held, Held.Parts, History.Step, Journal.told}
use Rattle.irig_saved.specs.declared.change.Change as saved
use Rattle.irig_saved.specs.declared.change.Change.TheVariants as change
use Rattle.irig_saved.specs.declared.single.Single.{Single}
use Rattle.irig_edit.specs.declared.changes.turn.Turn.{Turn}

-- the change that a turn makes, without the room for it
abbrev pub single_of : Turn → Single
single_of turn = turn.single

-- what the changes of a step are, without their room
abbrev pub delta_of : Parts Turn → saved.Change
delta_of (Alone turn) = change.One (single_of turn)
delta_of (Group turns) = change.Group (map single_of turns)

-- steps that are held, by what their changes are
abbrev pub deltas_of : List (Held Turn) → List (Step saved.Change)
deltas_of steps = map (told delta_of) steps
