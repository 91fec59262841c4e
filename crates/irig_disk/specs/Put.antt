-- What writing a text whole makes of a folder. This project's own.
use Rattle.std.specs.Prelude.{◌≡◌, ◌≢◌, ◌⊎◌, ◌++◌, ◌∷◌, [], ℕ, List, Option, Some, None}
use Rattle.irig_disk.specs.Disk.{Disk, IsPlace, seen_under, MayLeave, LeavesOnly}
use Rattle.irig_disk.specs.{Held.Held, Calls.owner_only, Trail.Moved, Trail.NotMoved, Trail.Synced}

-- the mode of a file that takes one or keeps the usual one: at first, and in the end
abbrev pub first_mode : ℕ → Option ℕ → ℕ
first_mode usual mode = elim mode [ None ↦ usual | Some _ ↦ owner_only ]

abbrev pub last_mode : ℕ → Option ℕ → ℕ
last_mode usual mode = elim mode [ None ↦ usual | Some taken ↦ taken ]

-- a text with its mode
abbrev pub held : ℕ → Option ℕ → List ℕ → Held
held usual mode text = record { bytes = text; mode = last_mode usual mode }

-- A crash leaves under a name what a crash before might have left there, or at the target the new
-- text whole.
abbrev pub OldOrNew : Disk → List ℕ → Held → List ℕ → Option Held → Type 0
OldOrNew old target new name c = MayLeave old name c ⊎ ((name ≡ target) × (c ≡ Some new))

-- that of the target and of each name under which a file was seen
abbrev pub OldOrNewIfThere : Disk → List ℕ → Held → List ℕ → Option Held → Type 0
OldOrNewIfThere old target new name c =
    (name ≡ target) ⊎ (old.leads name ≢ None) → OldOrNew old target new name c

-- A crash leaves under the target, and under each name that was there, what a crash before might
-- have left.
abbrev pub OldIfThere : Disk → List ℕ → List ℕ → Option Held → Type 0
OldIfThere old target name c = (name ≡ target) ⊎ (old.leads name ≢ None) → MayLeave old name c

-- No write was tried: a crash leaves nothing else than before.
pub record TriesNone (old new : Disk) (target : List ℕ) : Type 0 where
  pub log : new.log ≡ old.log
  pub moments : LeavesOnly old new (OldIfThere old target)

-- none was tried, or one that did not succeed
abbrev pub TriesOne : Disk → Disk → List ℕ → Held → Type 0
TriesOne old new target text = TriesNone old new target
    ⊎ (new.log ≡ old.log ++ Moved target (Some text) ∷ [])
    ⊎ (new.log ≡ old.log ++ NotMoved target (Some text) ∷ [])

-- under each name is seen what was
abbrev pub SeenSame : Disk → Disk → Type 0
SeenSame old new = (n : List ℕ) → seen_under new n ≡ seen_under old n

-- that of the target and of each name under which a file was seen
abbrev pub SeenSameIfThere : Disk → Disk → List ℕ → Type 0
SeenSameIfThere old new target =
    (n : List ℕ) → (n ≡ target) ⊎ (old.leads n ≢ None) → seen_under new n ≡ seen_under old n

-- the text is seen at the target, and under each other name what was
pub record IsPut (old new : Disk) (target : List ℕ) (text : Held) : Type 0 where
  pub at_target : seen_under new target ≡ Some text
  pub others : (n : List ℕ) → n ≢ target → seen_under new n ≡ seen_under old n

-- and that is the last that was done
abbrev pub IsPutLast : Disk → Disk → List ℕ → Held → Type 0
IsPutLast old new target text =
    IsPut old new target text × (new.log ≡ old.log ++ Moved target (Some text) ∷ [])

-- and each crash from now on leaves it there
pub record IsKept (old new : Disk) (target : List ℕ) (text : Held) : Type 0 where
  pub put : IsPut old new target text
  pub kept : (c : Option Held) → MayLeave new target c → c ≡ Some text
  pub log : new.log ≡ old.log ++ Moved target (Some text) ∷ Synced new.moment ∷ []
  pub paths : IsPlace old target → new.paths ≡ old.paths
