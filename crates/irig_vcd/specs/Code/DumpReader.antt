-- What a reader of parts has read.
use Rattle.std.specs.Prelude.{◌≡◌, ◌≤◌, ◌<◌, ◌⊎◌, ◌+◌, ◌*◌, ◌++◌, ◌^◌, ℕ, false, List, [], Option}
use Rattle.std.specs.Prelude.{Some, None, Ok, length, vec_capacity, vec_len}
use Rattle.std.specs.Global.{Vec}
use Rattle.irig_vcd.specs.declared.fault.VcdFault.TheVariants.{OutOfMemory}
use Rattle.irig_vcd.specs.{Answer.bytes_of, Code.Gathered.gathered, Code.Joins.ends_inside}
use Rattle.irig_vcd.specs.{Code.Reached.IsOn, Code.Scanned.StandsAt, Code.Scanned.Stops}
use Rattle.irig_vcd.specs.{Declarations.declarations_of, Scan.Scan, Scan.scan_words, Scan.start}
use Rattle.irig_vcd.specs.{Words.Word, Words.words_of, declared.fault.VcdFault.VcdFault}
use Rattle.irig_vcd.specs.{declared.progress.Progress.Progress, declared.reading.Reading.Reading}

-- the declarations are read, and the words after them up to the first fault
abbrev pub ScansTo : Option (List ℕ) → List Word → ℕ → List ℕ → Scan × Option VcdFault → Type 0
ScansTo wire words unit code end =
    (rest : List Word) × (declarations_of wire words ≡ Ok ((unit, code), rest))
    × (scan_words code unit start rest ≡ end)

-- the declarations and words after them are read
abbrev pub HasReadWords : Option (List ℕ) → List Word → ℕ → List ℕ → Reading → Type 0
HasReadWords wire words unit code r =
    (s : Scan) × ScansTo wire words unit code (s, None) × StandsAt unit s r

-- a fault is the first one after the declarations, or memory runs out for an edge before it
abbrev pub StopsIn : Option (List ℕ) → List Word → VcdFault → Type 0
StopsIn wire words e =
    (unit : ℕ) × (code : List ℕ) × (end : Scan × Option VcdFault)
    × ScansTo wire words unit code end × Stops unit end e

-- the same of a reader that knows the unit or not; if not, memory may run out when all words are
-- read, if its buffer has no room for the code
abbrev pub StopsAt : Option ℕ → Vec ℕ → Option (List ℕ) → List Word → VcdFault → Type 0
StopsAt (Some unit) kept wire words e = StopsIn wire words e
StopsAt None kept wire words e =
    StopsIn wire words e
    ⊎ ((e ≡ OutOfMemory) × (unit : ℕ) × (code : List ℕ) × (s : Scan)
    × (vec_capacity kept < vec_len kept + length code) × ScansTo wire words unit code (s, None))

-- nothing is read after the declarations
abbrev pub IsNew : Reading → Type 0
IsNew r = (unit : ℕ) → StandsAt unit start r

-- these words are read; none, if the unit is not known yet
abbrev pub Stage : Option (List ℕ) → List Word → Option ℕ → List ℕ → Reading → Type 0
Stage wire words None code r = (words ≡ []) × (code ≡ []) × IsNew r
Stage wire words (Some unit) code r = HasReadWords wire words unit code r

-- the time is one of the unit, or of each if that is not known yet
abbrev pub IsReady : Option ℕ → Reading → Type 0
IsReady None r = (unit : ℕ) → IsOn unit r.trace r.clock
IsReady (Some unit) r = IsOn unit r.trace r.clock

-- how many bytes came
abbrev pub bytes_read : Progress → ℕ
bytes_read r = r.gone + vec_len r.held

-- what is true of each reader
pub record IsReader (r : Progress) : Type 0 where
  pub ready : IsReady r.unit r.reading
  pub short : bytes_read r ≤ 2 ^ 48
  pub within : vec_len r.journal ≤ r.gone
  pub wanted : r.wanted ≤ 2 * vec_len r.held

-- a reader has read these bytes of a dump, of the wire of a name: all but those that it holds
pub record HasRead (wire : Option (List ℕ)) (bytes : List ℕ) (r : Progress) : Type 0 where
  pub name : bytes_of r.wire ≡ wire
  pub front : List ℕ
  pub whole : bytes ≡ front ++ r.held.items
  pub place : length front ≡ r.gone
  pub closed : ends_inside false front ≡ false
  pub stage : Stage wire (words_of front) r.unit r.code.items r.reading
  pub none : r.unit ≡ None → r.gone ≡ 0
  pub journal : r.journal.items ≡ gathered r.reading front
