-- The writes that were tried on a disk. This project's own.
use Rattle.std.specs.Prelude.{◌≡◌, ◌⊎◌, ℕ, List, [], ◌∷◌, Option, Some, None}
use Rattle.irig_disk.specs.Trail.{Step, Moved, NotMoved, Synced}
use Rattle.irig_disk.specs.{Held.Held}

-- a write that was tried: its place, what it was to leave there, and the moment at which it had
-- succeeded, if it did
pub record Write : Type 0 where
  pub place : List ℕ
  pub held : Held
  pub kept_at : Option ℕ

-- that one
abbrev pub write : List ℕ → Held → Option ℕ → Write
write place held kept_at = record { place = place; held = held; kept_at = kept_at }

-- the moment at which the names were kept, if that came next
abbrev pub kept_by : List Step → Option ℕ
kept_by [] = None
kept_by (Synced moment ∷ log) = Some moment
kept_by (Moved place held ∷ log) = None
kept_by (NotMoved place held ∷ log) = None

-- the writes, from what was done to the names
abbrev pub writes_in : List Step → List Write
writes_in [] = []
writes_in (Moved place (Some held) ∷ log) = write place held (kept_by log) ∷ writes_in log
writes_in (NotMoved place (Some held) ∷ log) = write place held None ∷ writes_in log
writes_in (Moved place None ∷ log) = writes_in log
writes_in (NotMoved place None ∷ log) = writes_in log
writes_in (Synced moment ∷ log) = writes_in log

-- one of these writes was to leave this at the place, whole
abbrev pub IsLeftBy : List Write → List ℕ → Option Held → Type 0
IsLeftBy [] place c = ⊥
IsLeftBy (w ∷ writes) place c =
    ((w.place ≡ place) × (c ≡ Some w.held)) ⊎ IsLeftBy writes place c

-- each of the writes was at this place
abbrev pub AreAt : Option (List ℕ) → List Write → Type 0
AreAt place [] = Unit {0}
AreAt place (w ∷ writes) = (Some w.place ≡ place) × AreAt place writes
