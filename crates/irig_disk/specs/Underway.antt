-- A text that is being written to a new file, in one value. This project's own.
use Rattle.std.specs.Prelude.{ℕ, List}
use Rattle.irig_disk.specs.declared.new_text.NewText.{NewText}
use Rattle.irig_disk.specs.{Disk.Disk, Held.Held, Put.first_mode, Put.last_mode}
use Rattle.irig_disk.specs.{Writing.WhileWriting}

-- A text that is being written: the place of its new file and that of its target, the file's
-- number, the mode that the file has until the text is whole, and the one that it has in the end.
pub record Underway : Type 0 where
  pub beside : List ℕ
  pub target : List ℕ
  pub file : ℕ
  pub mode : ℕ
  pub last_mode : ℕ

-- The text of a `NewText`, in a folder with these places, these numbers of files and this usual
-- mode.
abbrev pub underway_of : {F Dir File Wrote Took Synced Renamed Removed Kept Fault : Type 0}
    → (Dir → List ℕ → List ℕ) → (File → ℕ) → ℕ
    → NewText F Dir File Wrote Took Synced Renamed Removed Kept Fault → Underway
underway_of place number usual_mode new = record {
  beside = place new.dir.now new.beside.now;
  target = place new.dir.now new.target.now;
  file = number new.file;
  mode = first_mode usual_mode new.mode;
  last_mode = last_mode usual_mode new.mode;
}

-- Whatever the start was since which it is being written, and whatever its bytes are so far: P has
-- them with the mode of the end.
abbrev pub WhileUnderway : {F : Type 0} → (F → Disk) → F → Underway
    → (Disk → Underway → Held → Type 0) → Type 0
WhileUnderway {F} disk now at P = WhileWriting disk now at.beside at.target at.file at.mode
    (λ start text. P start at (record { bytes = text; mode = at.last_mode }))

-- the same, in whatever mode the new file is now
abbrev pub WhileInAnyMode : {F : Type 0} → (F → Disk) → F → Underway
    → (Disk → Underway → Type 0) → Type 0
WhileInAnyMode {F} disk now at P = (mode : ℕ)
    → WhileWriting disk now at.beside at.target at.file mode (λ start text. P start at)
