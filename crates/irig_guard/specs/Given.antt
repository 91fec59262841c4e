-- What the program is given, and what it leaves. This project's own.
use Rattle.std.specs.Prelude.{◌≡◌, ◌⊎◌, ℕ, Bool, List, Option, IsTrue, if◌then◌else◌, is_some, not}
use Rattle.std.specs.Prelude.{option_map, true, unwrap_or}
use Rattle.irig_disk.specs.Disk.{Disk}
use Rattle.irig_files.specs.Apart.{AreApart, LeadToOneFile, Spares}
use Rattle.irig_files.specs.{Goes.LeavesTo, Tracks.Unreadable, Writes.Write}
use Rattle.irig_guarding.specs.declared.product.Product.{Product}
use Rattle.irig_guarding.specs.declared.product.Product.TheVariants as product
use Rattle.irig_guard.specs.{Others.IsOther, declared.chosen.Settings.Settings}

-- what is known of the ends of the program: what was printed, what was written, and what is left of
-- the script
pub record Ends : Type 0 where
  pub out : Option (List ℕ)
  pub writes : Option (List Write)
  pub script : Option (List ℕ)

-- the ends with these
abbrev pub ends : Option (List ℕ) → Option (List Write) → Option (List ℕ) → Ends
ends out writes script = record { out = out; writes = writes; script = script }

-- What the program was given besides: what files hold, for which faults they are not read, where
-- paths lead, and which two lead to one file; what a crash leaves of what is written to a path, and
-- that it leaves at one what was there.
pub record Files : Type 1 where
  pub held : List ℕ → Option (List ℕ)
  pub unread : Unreadable
  pub paths : List ℕ → Option (List ℕ)
  pub same : List ℕ → List ℕ → Type 0
  pub kept : List ℕ → Type 0
  pub spared : List ℕ → Type 0

-- the files that hold these, from one state of a disk to another, if the contracts give them
abbrev pub files : (List ℕ → Option (List ℕ)) → Unreadable → Bool → (ℕ → Type 0) → (ℕ → Type 0)
    → Disk → Disk → Files
files held unread told barred barred_new old new = record {
  held = held;
  unread = unread;
  paths = old.paths;
  same = λ one other. IsTrue told → LeadToOneFile old one other;
  kept = LeavesTo told barred barred_new old new;
  spared = Spares told old new;
}

-- the path of what is written: that of the dump, if nothing is
abbrev pub place_of : Settings → List ℕ
place_of chosen = unwrap_or (option_map (λ p. p.now) chosen.out) chosen.track.now

-- what is written: nothing without a path, and the journal too if it is asked for
abbrev pub product_of : Settings → Product
product_of chosen =
    if not (is_some chosen.out) then product.Nothing
    else (if chosen.save then product.Session else product.Track)

-- what is written is not written to the file at a path
abbrev pub IsApartFrom : List ℕ → Settings → Disk → Type 0
IsApartFrom path chosen disk = is_some chosen.out ≡ true → AreApart disk path (place_of chosen)

-- so of the file of the dump
abbrev pub IsApart : Settings → Disk → Type 0
IsApart chosen disk = IsApartFrom chosen.track.now chosen disk

-- so of the files of the other recordings
abbrev pub AreOthersApart : Settings → Disk → Type 0
AreOthersApart chosen disk = (path : List ℕ) → IsOther chosen path → IsApartFrom path chosen disk

-- a path whose file is read: that of the dump, or of another recording
abbrev pub IsRead : Settings → List ℕ → Type 0
IsRead chosen path = (path ≡ chosen.track.now) ⊎ IsOther chosen path

-- a crash at any moment leaves at the place of each what was there
abbrev pub AreSpared : Bool → Disk → Disk → Settings → Type 0
AreSpared told old new chosen =
    (path : List ℕ) → IsRead chosen path → Spares told old new path
