-- A step of the search for a column with a name: one more read or column. This project's own.
use Rattle.std.specs.Prelude.{◌≡◌, ◌⊎◌, ◌≤◌, ◌<◌, ◌^◌, ℕ, Bool, true, false, List, length, Option}
use Rattle.std.specs.Prelude.{Some, None, Result, Ok, Err}
use Rattle.std.specs.Io.KnownBytes.{Consumes, IsAtEnd}
use Rattle.irig_stamps.specs.Named.{AreTwo, Finds, IsOnly, newlines}
use Rattle.irig_stamps.specs.declared.fault.RunFault.TheVariants.{TwoColumns}
use Rattle.irig_stamps.specs.{declared.fault.RunFault.RunFault, declared.settings.Settings.Settings}
use Rattle.irig_stamps.specs.declared.header.Header.{Header}

-- these bytes were read, and the header is not whole yet
pub record Reading (s : Settings) (lines left : Option (List ℕ)) (header : Header) : Type 0 where
  pub read : Consumes lines left header.bytes.items
  pub ended : header.ended ≡ newlines header.bytes.items
  pub more : newlines header.bytes.items < s.header
  pub short : length header.bytes.items < 2 ^ 20

-- these bytes were read, and the header is whole, or there is no more of it
abbrev pub HasRead : Settings → Option (List ℕ) → Option (List ℕ) → List ℕ → Type 0
HasRead s lines left bytes =
    Consumes lines left bytes × ((s.header ≤ newlines bytes) ⊎ IsAtEnd left)

-- why reading was broken off, whatever the name
abbrev pub HasStopped : Settings → Option (List ℕ) → Option (List ℕ) → RunFault → Type 0
HasStopped s lines left fault =
    (bytes : List ℕ) × ((name : List ℕ) → Finds s name lines left bytes (Err fault))

-- after one more read: it was the last, or more are needed
abbrev pub ReadsOn : Settings → Option (List ℕ) → Option (List ℕ) → Header → Result Bool RunFault
    → Type 0
ReadsOn s lines left header (Ok true) = HasRead s lines left header.bytes.items
ReadsOn s lines left header (Ok false) = Reading s lines left header
ReadsOn s lines left header (Err fault) = HasStopped s lines left fault

-- which of the first n columns has the name so far
abbrev pub IsSoFar : (ℕ → Bool) → ℕ → Option ℕ → Type 0
IsSoFar has n None = (j : ℕ) → j < n → has j ≡ false
IsSoFar has n (Some k) = IsOnly has n k

-- after one more column: at most one has it, or a second one has it
abbrev pub IsNext : (ℕ → Bool) → ℕ → Result (Option ℕ) RunFault → Type 0
IsNext has n (Ok found) = IsSoFar has n found
IsNext has n (Err fault) = (fault ≡ TwoColumns) × AreTwo has n
