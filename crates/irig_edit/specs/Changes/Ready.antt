-- The steps of a journal are ready to be turned. This project's own.
use Rattle.irig_journal.specs.Journal.{AreReady, Steps}
use Rattle.irig_edit.specs.{Changes.Delta.Fits, Changes.Delta.turned, Changes.Held.delta_of}
use Rattle.irig_edit.specs.{State.Places.places_in, State.Present.PresentView}
use Rattle.irig_edit.specs.{Changes.Room.HasRoomFor, declared.changes.turn.Turn.Turn}

-- the steps back and forward can be made in turn from the present state, and each of their changes
-- has its room when its turn comes
abbrev pub StepsAreReady : PresentView → Steps Turn → Type 0
StepsAreReady p j = AreReady Fits turned delta_of (HasRoomFor (places_in p)) p.state j
