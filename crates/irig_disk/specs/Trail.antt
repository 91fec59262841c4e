-- What was done to the names of a disk, as a list that grows. This project's own.
use Rattle.std.specs.Prelude.{ℕ, List, Option}
use Rattle.irig_disk.specs.Held.{Held}

-- A file was given this place, and held this; it was not, but a crash may show it; or the names
-- were kept, at this moment.
pub data Step : Type 0 where
  Moved : List ℕ → Option Held → Step
  NotMoved : List ℕ → Option Held → Step
  Synced : ℕ → Step
