-- What writes make of a disk, from one state to another, and what a crash leaves of them. This
-- project's own.
use Rattle.std.specs.Prelude.{◌≡◌, ◌≢◌, ◌⊎◌, ◌≤◌, ◌++◌, Bool, IsTrue, ℕ, List, [], ◌∷◌, Option}
use Rattle.std.specs.Prelude.{Some, None}
use Rattle.irig_disk.specs.Trail.{Step}
use Rattle.irig_disk.specs.{Disk.Disk, Disk.MayLeave, Disk.seen_under, Held.Held}
use Rattle.irig_files.specs.Taken.{StaysBarred}
use Rattle.irig_files.specs.Writes.{Write, kept_by, writes_in, IsLeftBy, AreAt}

-- a write that succeeded: it is seen, or a later one, and each crash since then leaves one of these
pub record IsKeptSince (old new : Disk) (w : Write) (after : List Write) (moment : ℕ)
    : Type 0 where
  pub began : old.moment ≤ moment
  pub ended : moment ≤ new.moment
  pub there : new.leads w.place ≢ None
  pub seen : (seen_under new w.place ≡ Some w.held)
      ⊎ IsLeftBy after w.place (seen_under new w.place)
  pub left : (c : Option Held) → new.left_since moment w.place c
      → (c ≡ Some w.held) ⊎ IsLeftBy after w.place c

-- that, if it succeeded
abbrev pub IsKeptIfDone : Disk → Disk → Write → List Write → Option ℕ → Type 0
IsKeptIfDone old new w after None = Unit {0}
IsKeptIfDone old new w after (Some moment) = IsKeptSince old new w after moment

-- each of the writes is, if it succeeded
abbrev pub EachIsKept : Disk → Disk → List Write → Type 0
EachIsKept old new [] = Unit {0}
EachIsKept old new (w ∷ after) =
    IsKeptIfDone old new w after w.kept_at × EachIsKept old new after

-- A file was at the place, or it is the one that was written. Of other places, where a new file may
-- wait for its name, nothing is said.
abbrev pub IsMeant : Disk → Option (List ℕ) → List ℕ → Type 0
IsMeant old target place = (old.leads place ≢ None) ⊎ (Some place ≡ target)

-- From one state to another only whole texts were written, one after another, at the target: the
-- place of a regular file, or of none yet. With no such place none was.
pub record Goes (old new : Disk) (target : Option (List ℕ)) : Type 0 where
  pub more : List Step
  pub grows : new.log ≡ old.log ++ more
  pub begins : kept_by more ≡ None
  pub later : old.moment ≤ new.moment
  pub paths : new.paths ≡ old.paths
  pub there : (place : List ℕ) → old.leads place ≢ None → new.leads place ≢ None
  pub at_target : AreAt target (writes_in more)
  -- What is seen is what was seen before, or the whole of a write.
  pub seen : (place : List ℕ) → IsMeant old target place
      → (seen_under new place ≡ seen_under old place)
      ⊎ IsLeftBy (writes_in more) place (seen_under new place)
  -- A crash at any moment since old leaves what it might have left before, or the whole of a write.
  pub any_moment : (place : List ℕ) (c : Option Held) → IsMeant old target place
      → new.left_since old.moment place c
      → MayLeave old place c ⊎ IsLeftBy (writes_in more) place c
  -- for a run that began earlier
  pub before : (t : ℕ) (place : List ℕ) (c : Option Held) → t ≤ old.moment
      → IsMeant old target place → new.left_since t place c
      → old.left_since t place c ⊎ IsLeftBy (writes_in more) place c
  -- After a write that succeeded a crash leaves it, or a later one.
  pub kept : EachIsKept old new (writes_in more)

-- so it was from one state to another, to where the path leads, if the contracts give it
abbrev pub GoesTo : Bool → Disk → Disk → List ℕ → Type 0
GoesTo told old new path = IsTrue told → Goes old new (old.paths path)

-- and a file at its place that must not be written stays
abbrev pub LeavesTo : Bool → (ℕ → Type 0) → (ℕ → Type 0) → Disk → Disk → List ℕ → Type 0
LeavesTo told barred barred_new old new path =
    GoesTo told old new path × (IsTrue told → StaysBarred barred barred_new old new path)
