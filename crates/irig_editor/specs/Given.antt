-- What the program is given, and what it leaves. This project's own.
use Rattle.std.specs.Prelude.{◌≡◌, ℕ, Bool, List, Option, IsTrue, is_some, true}
use Rattle.irig_disk.specs.Disk.{Disk}
use Rattle.irig_files.specs.Apart.{AreApart, LeadToOneFile, Spares}
use Rattle.irig_files.specs.{Goes.LeavesTo, Tracks.Unreadable, Writes.Write}
use Rattle.irig_script.specs.Print.Screen.{Shown}
use Rattle.irig_settings.specs.declared.chosen.Settings.{Settings}

-- what is known of the ends of the program: what was printed and what a witness saw, what was
-- written, and what is left of the script
pub record Ends : Type 0 where
  pub screen : Shown
  pub writes : Option (List Write)
  pub script : Option (List ℕ)

-- the ends with these
abbrev pub ends : Shown → Option (List Write) → Option (List ℕ) → Ends
ends screen writes script = record { screen = screen; writes = writes; script = script }

-- What else was given: what files hold, for which faults they are not read, where paths lead, and
-- which two lead to one file; what a crash leaves of what is written to a path, and that it leaves
-- at one what was there.
pub record Files : Type 1 where
  pub held : List ℕ → Option (List ℕ)
  pub unread : Unreadable
  pub paths : List ℕ → Option (List ℕ)
  pub same : List ℕ → List ℕ → Type 0
  pub kept : List ℕ → Type 0
  pub spared : List ℕ → Type 0

-- the files that hold these, from one state of a disk to another, if the contracts give them
abbrev pub files : (List ℕ → Option (List ℕ)) → Unreadable → Bool → (ℕ → Type 0) → (ℕ → Type 0)
    → Disk → Disk → Files
files held unread told barred barred_new old new = record {
  held = held;
  unread = unread;
  paths = old.paths;
  same = λ one other. IsTrue told → LeadToOneFile old one other;
  kept = LeavesTo told barred barred_new old new;
  spared = Spares told old new;
}

-- what is written of a window is not written to the file of the dump
abbrev pub IsApart : Settings → Disk → Type 0
IsApart chosen disk =
    is_some chosen.window ≡ true → AreApart disk chosen.track.now chosen.out.now
