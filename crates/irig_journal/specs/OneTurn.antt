-- What a turn of the nearest step does. This project's own.
use Rattle.std.specs.Prelude.{◌≡◌, List, Option, Some}
use Rattle.irig_journal.specs.History.{CountsNearest, History, Step, machine}
use Rattle.irig_journal.specs.Machine.{Kept, Machine}

-- one turn, that of the nearest of some steps, led from one history to another: by a move of the
-- machine of whole states, and by a move of the steps; and the tally moved by that turn
pub record LedByOneTurn {S D T : Type 0} (turned : S → D → S × D)
    (counted : S → D → T → T → Type 0) (move : Machine (Kept S) → Option (Machine (Kept S)))
    (step : History S D → Option (History S D)) (nearest : List (Step D))
    (old new : History S D) (before after : T) : Type 0 where
  pub states : move (machine turned old) ≡ Some (machine turned new)
  pub steps : step old ≡ Some new
  pub once : CountsNearest counted old.state nearest before after
