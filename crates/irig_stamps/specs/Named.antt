-- The column with a name, in the header of a text of lines. This project's own.
use Rattle.std.specs.Prelude.{◌≡◌, ◌≢◌, ◌⊎◌, ◌==◌, ◌≤◌, ◌<◌, ◌+◌, ◌-◌, ◌^◌, ◌&&◌, ℕ, suc, Bool, true, false}
use Rattle.std.specs.Prelude.{if◌then◌else◌, List, [], ◌∷◌, length, drop, nat_eq, Option, Result, Ok, Err}
use Rattle.std.specs.List.{starts_with}
use Rattle.std.specs.Io.KnownBytes.{Consumes, IsAtEnd}
use Rattle.irig_stamps.specs.declared.cutting.Until.TheVariants.{NonBlank}
use Rattle.irig_stamps.specs.declared.fault.RunFault.TheVariants.{LongHeader, NoColumn, NoHeader}
use Rattle.irig_stamps.specs.declared.fault.RunFault.TheVariants.{OutOfMemory, ReadFailed}
use Rattle.irig_stamps.specs.declared.fault.RunFault.TheVariants.{TooManyReads, TwoColumns}
use Rattle.irig_stamps.specs.{Columns.column_of, Columns.onward, Columns.part_at}
use Rattle.irig_stamps.specs.{declared.fault.RunFault.RunFault, declared.settings.Settings.Settings}

-- a text is a name with white space round it
abbrev pub is_named : List ℕ → List ℕ → Bool
is_named name text = starts_with nat_eq (onward NonBlank text) name
    && (length (onward NonBlank (drop (length name) (onward NonBlank text))) == 0)

-- whether column k of a line, from 0, has the name
abbrev pub has_name : Option ℕ → List ℕ → List ℕ → ℕ → Bool
has_name comma name line k = is_named name (column_of comma k line)

-- of the first n columns just this one has it
pub record IsOnly (has : ℕ → Bool) (n k : ℕ) : Type 0 where
  pub within : k < n
  pub named : has k ≡ true
  pub others : (j : ℕ) → j < n → has j ≡ true → j ≡ k

-- two of them have it
pub record AreTwo (has : ℕ → Bool) (n : ℕ) : Type 0 where
  pub one : ℕ
  pub other : ℕ
  pub order : one < other
  pub within : other < n
  pub named : has one ≡ true
  pub again : has other ≡ true

-- which one has it: none, or two, is a fault
abbrev pub IsPlace : (ℕ → Bool) → ℕ → Result ℕ RunFault → Type 0
IsPlace has n (Ok k) = IsOnly has n k
IsPlace has n (Err NoColumn) = (j : ℕ) → j < n → has j ≡ false
IsPlace has n (Err TwoColumns) = AreTwo has n
IsPlace has n (Err _) = ⊥

-- how many lines of some bytes a newline ends
abbrev pub newlines : List ℕ → ℕ
newlines [] = 0
newlines (b ∷ bs) = if b == 10 then suc (newlines bs) else newlines bs

-- the last line of the header, if some bytes have it
abbrev pub header_line : Settings → List ℕ → List ℕ
header_line s bytes = part_at 10 (s.header - 1) bytes

-- the bytes that were read have the header: a newline ends its last line, or they end with it
pub record HasHeader (s : Settings) (lines left : Option (List ℕ)) (bytes : List ℕ) : Type 0 where
  pub read : Consumes lines left bytes
  pub whole : (s.header ≤ newlines bytes)
      ⊎ ((s.header ≤ newlines bytes + 1) × ((header_line s bytes ≢ []) × IsAtEnd left))

-- of the columns that a number can name, which one has the name in the last line of the header;
-- or why that is not known, by what was read
abbrev pub Finds : Settings → List ℕ → Option (List ℕ) → Option (List ℕ) → List ℕ
    → Result ℕ RunFault → Type 0
Finds s name lines left bytes (Err NoHeader) = Consumes lines left bytes × (IsAtEnd left
    × ((newlines bytes + 1 < s.header)
    ⊎ ((newlines bytes < s.header) × (header_line s bytes ≡ []))))
Finds s name lines left bytes (Err LongHeader) =
    Consumes lines left bytes × ((newlines bytes < s.header) × (2 ^ 20 ≤ length bytes))
Finds s name lines left bytes (Err ReadFailed) =
    Consumes lines left bytes × (newlines bytes < s.header)
Finds s name lines left bytes (Err TooManyReads) =
    Consumes lines left bytes × (newlines bytes < s.header)
Finds s name lines left bytes (Err OutOfMemory) = Consumes lines left bytes
Finds s name lines left bytes place = HasHeader s lines left bytes
    × IsPlace (has_name s.comma name (header_line s bytes)) 65536 place
