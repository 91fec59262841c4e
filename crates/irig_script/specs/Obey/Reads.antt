-- A run between two reads of its script, and what one more read makes of it. This project's own.
use Rattle.std.specs.Prelude.{◌≡◌, ◌≤◌, ◌+◌, ◌*◌, ℕ, Bool, true, false, List, [], ◌∷◌, Option}
use Rattle.std.specs.Prelude.{length, Result, Ok, Err}
use Rattle.std.specs.Io.KnownBytes.{Consumes}
use Rattle.irig_script.specs.declared.obey.status.Status.TheVariants.{AllAccepted}
use Rattle.irig_script.specs.declared.obey.status.RunFault.{RunFault}
use Rattle.irig_script.specs.{Obey.Machine.Machine, Obey.Desk.Desk, Obey.Ending.EndsAs}
use Rattle.irig_script.specs.{Obey.Progress.Obeyed, Obey.Reading.ReadsTo}
use Rattle.irig_script.specs.{declared.obey.status.Status.Status, declared.obey.line.Line.Line}

-- what a read gave after the front of a line; of no bytes, the newline that the line lacks
abbrev pub with_end : List ℕ → List ℕ → List ℕ
with_end text (b ∷ bytes) = b ∷ bytes
with_end (b ∷ text) [] = 10 ∷ []
with_end [] [] = []

-- what this many reads gave was obeyed up to the front of a line, which the buffer holds
pub record IsUnderway (reads : ℕ) (script left : Option (List ℕ)) (from to : Desk)
    (status : Status) (old new : Machine) (line : Line) : Type 0 where
  pub bytes : List ℕ
  pub read : Consumes script left bytes
  pub many : reads ≤ length bytes
  pub most : length bytes ≤ 4096 * reads
  pub obeyed : Obeyed false from to AllAccepted status old new bytes line

-- the run has ended with this result
pub record HasEnded (script left : Option (List ℕ)) (from to : Desk) (old new : Machine)
    (result : Result Status RunFault) : Type 0 where
  pub ends : EndsAs script left from to old new result
  pub reads : ReadsTo script left
  pub label : to.shelf.label ≡ from.shelf.label

-- after this many reads came one more: it was the last, or the run goes on
abbrev pub GoesOn : ℕ → Option (List ℕ) → Option (List ℕ) → Desk → Desk → Status → Machine → Machine
    → Line → Result Bool RunFault → Type 0
GoesOn reads script left from to status old new line (Ok false) =
    IsUnderway (reads + 1) script left from to status old new line
GoesOn reads script left from to status old new line (Ok true) =
    HasEnded script left from to old new (Ok status)
GoesOn reads script left from to status old new line (Err fault) =
    HasEnded script left from to old new (Err fault)
