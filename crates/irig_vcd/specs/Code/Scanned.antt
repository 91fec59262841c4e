-- Where the code is in the words after the declarations.
use Rattle.std.specs.Prelude.{◌≡◌, ◌≤◌, ◌⊎◌, ℕ, Bool, List, [], Option, Some, None, Result, Ok, Err}
use Rattle.irig_vcd.specs.Scan.{Scan, and_level, closed, scan_words}
use Rattle.irig_vcd.specs.{Code.Time.IsTime, Code.Time.units_of, Code.Trace.EdgeBefore}
use Rattle.irig_vcd.specs.{Code.Trace.Follows, declared.fault.VcdFault.TheVariants.OutOfMemory}
use Rattle.irig_vcd.specs.{Code.Journals.Holds, Code.Pending.Means, Times.micros_of, Words.Word}
use Rattle.irig_vcd.specs.{declared.fault.VcdFault.VcdFault, declared.journals.Journals.Journals}
use Rattle.irig_vcd.specs.{declared.pending.Pending.Pending, declared.reading.Reading.Reading}
use Rattle.irig_vcd.specs.{declared.time.Clock.Clock, declared.trace.Trace.Trace}

-- the time and the changes of a scan are those of a clock and a trace
pub record IsTraced (unit : ℕ) (s : Scan) (t : Trace) (clock : Clock) : Type 0 where
  pub time : IsTime unit clock
  pub late : t.time ≤ micros_of unit (units_of unit clock)
  pub last : units_of unit clock ≡ s.last
  pub follows : Follows s.changes t

-- its journals and what is open are those that are kept
pub record Keeps (s : Scan) (j : Journals) (now : Pending) : Type 0 where
  pub holds : Holds s.journals j
  pub means : Means now s.opened

-- the code is at a scan
pub record IsAt (unit : ℕ) (s : Scan) (t : Trace) (clock : Clock) (j : Journals) (now : Pending)
    : Type 0 where
  pub traced : IsTraced unit s t clock
  pub keeps : Keeps s j now

-- the same of what the code keeps between two parts
abbrev pub StandsAt : ℕ → Scan → Reading → Type 0
StandsAt unit s r = IsAt unit s r.trace r.clock r.journals r.pending

-- the words that are left lead to this, from where the code is; if something is open, none is left
pub record Leads (code : List ℕ) (unit : ℕ) (end : Scan × Option VcdFault) (t : Trace)
    (clock : Clock) (j : Journals) (now : Pending) (words : List Word) : Type 0 where
  pub s : Scan
  pub here : IsAt unit s t clock j now
  pub ends : (s.opened ≡ closed) ⊎ (words ≡ [])
  pub left : scan_words code unit s words ≡ end

-- this is the first fault; memory runs out only for an edge before that
abbrev pub Stops : ℕ → Scan × Option VcdFault → VcdFault → Type 0
Stops unit end OutOfMemory = EdgeBefore (micros_of unit end.0.last) end.0.changes
Stops unit end e = end.1 ≡ Some e

-- words that lead to this are read up to where the code is then, or to the first fault
abbrev pub Scans : {X : Type 0} → ℕ → Scan × Option VcdFault → Result X VcdFault → (X → Type 0)
    → Type 0
Scans unit end (Ok x) then = then x
Scans unit end (Err e) then = Stops unit end e

-- the same, if it is memory that stops it
abbrev pub Puts : {X E : Type 0} → ℕ → Scan × Option VcdFault → Result X E → (X → Type 0) → Type 0
Puts unit end (Ok x) then = then x
Puts unit end (Err e) then = EdgeBefore (micros_of unit end.0.last) end.0.changes

-- words after a scan are read up to others; they give the wire a level or none, and what is open
-- then is kept
pub record Reaches (code : List ℕ) (unit : ℕ) (s : Scan) (words : List Word) (level : Option Bool)
    (rest : List Word) (j : Journals) (now : Pending) : Type 0 where
  pub t : Scan
  pub same : scan_words code unit s words ≡ scan_words code unit t rest
  pub last : t.last ≡ s.last
  pub changes : t.changes ≡ and_level (micros_of unit s.last) level s.changes
  pub keeps : Keeps t j now
  pub ends : (t.opened ≡ closed) ⊎ (rest ≡ [])

-- the same, or they are at fault
abbrev pub Takes : List ℕ → ℕ → Scan → List Word → Result (Option Bool) VcdFault → List Word
    → Journals → Pending → Type 0
Takes code unit s words (Ok level) rest j now = Reaches code unit s words level rest j now
Takes code unit s words (Err e) rest j now = (scan_words code unit s words).1 ≡ Some e

-- words after a scan are read up to others, and neither a journal nor what is open changes
pub record Passes (code : List ℕ) (unit : ℕ) (s : Scan) (words : List Word) (t : Trace)
    (clock : Clock) (rest : List Word) : Type 0 where
  pub now : Scan
  pub same : scan_words code unit s words ≡ scan_words code unit now rest
  pub traced : IsTraced unit now t clock
  pub journals : now.journals ≡ s.journals
  pub opened : now.opened ≡ s.opened

-- what was read after a scan is at its end, or stopped
abbrev pub HasScanned : {X : Type 0} → List ℕ → ℕ → Scan → List Word → Result X VcdFault → Reading
    → Type 0
HasScanned code unit s words (Ok _) r =
    (t : Scan) × (scan_words code unit s words ≡ (t, None)) × StandsAt unit t r
HasScanned code unit s words (Err e) r = Stops unit (scan_words code unit s words) e
