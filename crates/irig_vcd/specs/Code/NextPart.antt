-- What a reader of parts does with the next part.
use Rattle.std.specs.Prelude.{◌≡◌, ◌<◌, ◌+◌, ◌*◌, ◌++◌, ◌⊎◌, ℕ, not, true, false, List, [], Option}
use Rattle.std.specs.Prelude.{Some, None, Err, drop, length, take, vec_capacity, vec_len}
use Rattle.std.specs.{Global.Vec, List.list_all}
use Rattle.irig_vcd.specs.declared.progress.Progress.{Progress}
use Rattle.irig_vcd.specs.{Answer.bytes_of, Code.DumpReader.ScansTo, Code.Gathered.journal_in}
use Rattle.irig_vcd.specs.{Code.Joins.ends_inside, Declarations.declarations_of}
use Rattle.irig_vcd.specs.{Dump.changes_before, Level.HasEdge, Scan.Scan, Words.is_space}
use Rattle.irig_vcd.specs.{Words.words_of, declared.fault.VcdFault.VcdFault}

-- bytes have no white space
abbrev pub IsDark : List ℕ → Type 0
IsDark bytes = list_all (λ b. not (is_space b)) bytes ≡ true

-- bytes up to a place outside a word, or to the end, were read without a fault; and a buffer has no
-- room for the code, which was not known before, or for the first journal so far
pub record KeepsMore (wire : Option (List ℕ)) (known : Option ℕ) (kept journal : Vec ℕ)
    (bytes : List ℕ) : Type 0 where
  pub front : List ℕ
  pub rest : List ℕ
  pub whole : bytes ≡ front ++ rest
  pub outside : (ends_inside false front ≡ false) ⊎ (rest ≡ [])
  pub unit : ℕ
  pub code : List ℕ
  pub s : Scan
  pub read : ScansTo wire (words_of front) unit code (s, None)
  pub full : ((known ≡ None) × (vec_capacity kept < vec_len kept + length code))
      ⊎ (vec_capacity journal < length (journal_in s front))

-- reading bytes takes memory: for an edge before the first fault, or for the code or a journal
abbrev pub TakesMemory : Option (List ℕ) → Option ℕ → Vec ℕ → Vec ℕ → List ℕ → Type 0
TakesMemory wire known kept journal bytes =
    HasEdge (changes_before wire bytes) ⊎ KeepsMore wire known kept journal bytes

-- nothing more can be read of what is held: it is a word without its end; or it is all that came,
-- and its declarations, up to the last white space, are at fault, or do not end
abbrev pub IsReadUp : Option ℕ → Progress → Type 0
IsReadUp None r = (e : VcdFault) × (n : ℕ) × IsDark (drop n r.held.items)
    × (declarations_of (bytes_of r.wire) (words_of (take n r.held.items)) ≡ Err e)
IsReadUp (Some unit) r = IsDark r.held.items

-- a reader read enough: it holds fewer bytes than it wanted; or it read, and wants twice the rest
abbrev pub HasReadEnough : ℕ → Progress → Type 0
HasReadEnough wanted r = ((vec_len r.held < wanted) × (r.wanted ≡ wanted))
    ⊎ (IsReadUp r.unit r × (r.wanted ≡ 2 * vec_len r.held))
