-- What an edit of the pulses is judged by, and what it comes to. This project's own.
use Rattle.std.specs.Prelude.{◌≡◌, ◌≤◌, ◌-◌, ℕ, List, Option, None, length}
use Rattle.irig_recording.specs.declared.pulse.Pulse.{Pulse}
use Rattle.irig_saved.specs.declared.change.Change.TheVariants.{One}
use Rattle.irig_saved.specs.declared.single.Single.TheVariants.{Splice}
use Rattle.irig_track.specs.Splices.{CanSplice, spliced}
use Rattle.irig_edit.specs.Edits.Refusals.{first_holding, tests_of}
use Rattle.irig_edit.specs.State.State.{State, with_pulses}
use Rattle.irig_edit.specs.{Session.Calls.Edit, Edits.Changes.change_by, Edits.Edits.IsAfter}
use Rattle.irig_edit.specs.{Edits.Edits.cursor_after, declared.session.refusal.Refusal.Refusal}

-- the first refusal of an edit in a state
abbrev pub judgement_of : Edit → State → Option Refusal
judgement_of edit s = first_holding (tests_of edit s)

-- the edit turns one state into the other, and the cursor comes to a place
pub record Becomes (edit : Edit) (old new : State) (place : ℕ) : Type 0 where
  pub after : IsAfter edit old new
  pub cursor : (before : ℕ) → place ≡ cursor_after edit before new.pulses
  pub there : place ≤ length new.pulses

-- an edit that is not refused replaces count pulses from one on, from 1, by those of put, and the
-- cursor comes to a place
pub record Plans (edit : Edit) (s : State) (first count : ℕ) (put : List Pulse) (place : ℕ)
    : Type 0 where
  pub allowed : judgement_of edit s ≡ None
  pub there : 1 ≤ first
  pub can : CanSplice s.micros (first - 1) count put s.pulses
  pub becomes : Becomes edit s (with_pulses (spliced (first - 1) count put s.pulses) s) place
  pub change : One (Splice first count put) ≡ change_by edit s
