-- What a group leaves, whatever is done in it. This project's own.
use Rattle.std.specs.Prelude.{◌≡◌, ◌⊎◌, ℕ, List, [], ◌∷◌, Option, Some, None}
use Rattle.std.specs.Option.{option_and_then}
use Rattle.irig_journal.specs.Groups.{Grouped, aborted, begun, ended, over, recorded_over}
use Rattle.irig_journal.specs.Groups.{redone_over, undone_over}
use Rattle.irig_journal.specs.Machine.{Kept, Machine, kept}

-- an edit with the state that it leaves, an undo or a redo, each of them accepted, a move of the
-- cursor, or anything refused
pub data Deed (S : Type 0) : Type 0 where
  Make : Kept S → Deed S
  Back : Deed S
  Again : Deed S
  Go : ℕ → Deed S
  Nothing : Deed S

module _ {S : Type 0} where
  -- the present at another cursor
  abbrev pub gone_to : ℕ → Machine (Kept S) → Machine (Kept S)
  gone_to cursor m =
      record { past = m.past; present = kept m.present.state cursor; future = m.future }

  -- after a deed; none if it cannot be accepted
  abbrev pub after_deed : Deed S → Grouped (Kept S) → Option (Grouped (Kept S))
  after_deed (Make after) g = Some (recorded_over g after)
  after_deed Back g = undone_over g
  after_deed Again g = redone_over g
  after_deed (Go cursor) g = Some (over g.floor (gone_to cursor g.machine))
  after_deed Nothing g = Some g

  -- after deeds, one by one
  abbrev pub after_deeds : List (Deed S) → Grouped (Kept S) → Option (Grouped (Kept S))
  after_deeds [] g = Some g
  after_deeds (deed ∷ deeds) g = option_and_then (after_deeds deeds) (after_deed deed g)

  -- a past is this one, or this one and a step more, which leads to this state
  abbrev pub IsAtMostOneMore : List (Kept S) → S → List (Kept S) → Type 0
  IsAtMostOneMore below s past = (past ≡ below)
      ⊎ ((oldest : Kept S) × (past ≡ oldest ∷ below) × (oldest.state ≡ s))

-- a begin, whatever is done, and an abort: past and present are those of the begin
abbrev pub AbortGivesBack : Type 0 → Type 0
AbortGivesBack S = (deeds : List (Deed S)) (g start last : Grouped (Kept S))
    → begun g ≡ Some start → after_deeds deeds start ≡ Some last
    → aborted last ≡ Some (over None
    (record { past = g.machine.past; present = g.machine.present; future = [] }))

-- a begin, whatever is done, and an end: there is at most one more step, which leads to the state
-- of the begin
abbrev pub EndLeavesOneStep : Type 0 → Type 0
EndLeavesOneStep S = (deeds : List (Deed S)) (g start last after : Grouped (Kept S))
    → begun g ≡ Some start → after_deeds deeds start ≡ Some last → ended last ≡ Some after
    → IsAtMostOneMore g.machine.past g.machine.present.state after.machine.past
