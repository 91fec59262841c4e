-- What the program is given, and what it writes. This project's own.
use Rattle.std.specs.Prelude.{◌≡◌, ℕ, Bool, IsTrue, IsErr, List, Option, Result}
use Rattle.irig_disk.specs.{Disk.Disk, Writing.IsUnchanged}
use Rattle.irig_files.specs.{Apart.AreApart, Apart.LeadToOneFile, Once.PutsText, Taken.HasFile}
use Rattle.irig_files.specs.{Tracks.Unreadable, declared.written.Written.Written}
use Rattle.irig_text.specs.declared.shelf.ShelfFault.{ShelfFault}

-- what the files hold, by their paths
abbrev pub Held : Type 0
Held = List ℕ → Option (List ℕ)

-- a text was written to where a path leads, or was not; a file that must not be written was not
pub record Puts (usual : ℕ) (barred : ℕ → Type 0) (old new : Disk) (path text : List ℕ)
    (result : Result Written ShelfFault) : Type 0 where
  pub puts : PutsText usual old new (old.paths path) text result
  pub locked : HasFile barred old (old.paths path) → IsErr result × IsUnchanged old new

-- What files hold, and for which faults they are not read; which two paths lead to one file, and
-- which do not; that nothing was written, and that a text was, or was not, to a path.
pub record Files : Type 1 where
  pub held : Held
  pub unread : Unreadable
  pub same : List ℕ → List ℕ → Type 0
  pub apart : List ℕ → List ℕ → Type 0
  pub unwritten : Type 0
  pub puts : List ℕ → List ℕ → Result Written ShelfFault → Type 0

-- the files that hold these, from one state of a disk to another, if the contracts give them; and
-- that the disk is as it was
abbrev pub files : Held → Unreadable → Bool → ℕ → (ℕ → Type 0) → Disk → Disk → Type 0 → Files
files held unread told usual barred old new unwritten = record {
  held = held;
  unread = unread;
  same = λ one other. IsTrue told → LeadToOneFile old one other;
  apart = λ one other. IsTrue told → AreApart old one other;
  unwritten = unwritten;
  puts = λ path text result. IsTrue told → Puts usual barred old new path text result;
}

-- nothing was read of the lines, printed or written
abbrev pub IsUntouched : Files → Option (List ℕ) → Option (List ℕ) → Option (List ℕ)
    → Option (List ℕ) → Type 0
IsUntouched given lines left from to = (left ≡ lines) × (to ≡ from) × given.unwritten
