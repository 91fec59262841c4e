-- One step of a run over a text of lines. This project's own.
use Rattle.std.specs.Prelude.{◌≡◌, ◌≢◌, ◌⊎◌, ◌≤◌, ◌^◌, ℕ, Bool, true, false, List, [], ◌∷◌, ◌++◌}
use Rattle.std.specs.Prelude.{length, Option, Result, Ok, Err}
use Rattle.std.specs.Io.KnownBytes.{Appends, Consumes}
use Rattle.irig_codes.specs.Format.{FormatView}
use Rattle.irig_recording.specs.declared.pulse.Pulse.{Pulse}
use Rattle.irig_track.specs.Looks.{counted}
use Rattle.irig_stamps.specs.declared.fault.RunFault.TheVariants.{PrintFailed, TooLong, OutOfMemory}
use Rattle.irig_print.specs.{Front.AppendsFront, declared.output.PrintFault.PrintFault}
use Rattle.irig_stamps.specs.{Runs.Broke, Runs.Ran, Stamped.Stamped, declared.tally.Tally.Tally}
use Rattle.irig_stamps.specs.{declared.fault.RunFault.RunFault, declared.fault.TakeFault.TakeFault}
use Rattle.irig_stamps.specs.{declared.progress.Progress.Progress, declared.settings.Settings.Settings}
use Rattle.irig_stamps.specs.declared.fault.TakeFault.TheVariants as take

-- after these bytes more, what was stamped before is stamped with what comes out for them
abbrev pub Takes : FormatView → List Pulse → Settings → List ℕ → List ℕ → List ℕ → Progress
    → Progress → Type 0
Takes f ps s part old new was is =
    (bytes : List ℕ) (done : List ℕ)
    → Stamped f ps s bytes (done ++ old) was.line.items was.count was.tally
    → Stamped f ps s (bytes ++ part) (done ++ new) is.line.items is.count is.tally

-- the bytes were taken up to one that makes a line too long
pub record TakesUpTo (f : FormatView) (ps : List Pulse) (s : Settings) (part old new : List ℕ)
    (was is : Progress) : Type 0 where
  pub front : List ℕ
  pub byte : ℕ
  pub others : List ℕ
  pub cut : part ≡ front ++ byte ∷ others
  pub plain : byte ≢ 10
  pub long : 2 ^ 20 ≤ length is.line.items
  pub taken : Takes f ps s front old new was is

-- the same if all of the bytes were taken, or some line was not
abbrev pub TakesAs : FormatView → List Pulse → Settings → List ℕ → List ℕ → List ℕ → Progress
    → Progress → Result (Unit {0}) TakeFault → Type 0
TakesAs f ps s part old new was is (Ok done) = Takes f ps s part old new was is
TakesAs f ps s part old new was is (Err take.TooLong) = TakesUpTo f ps s part old new was is
TakesAs f ps s part old new was is (Err take.OutOfMemory) = Unit {0}

-- a byte was added to the line so far; or nothing changed, because it makes the line too long
abbrev pub PushesAs : ℕ → Progress → Progress → Result (Unit {0}) TakeFault → Type 0
PushesAs byte was is (Ok done) =
    (is.line.items ≡ was.line.items ++ byte ∷ [])
    × ((is.count ≡ was.count) × (is.tally ≡ was.tally))
PushesAs byte was is (Err take.TooLong) = (is.line.items ≡ was.line.items)
    × ((is.count ≡ was.count) × ((is.tally ≡ was.tally) × (2 ^ 20 ≤ length was.line.items)))
PushesAs byte was is (Err take.OutOfMemory) = Unit {0}

-- what was read so far was stamped up to the front of a line, and that was printed
pub record Underway (f : FormatView) (ps : List Pulse) (s : Settings)
    (lines left from to : Option (List ℕ)) (rest : List ℕ) (count : ℕ) (tally : Tally)
    : Type 0 where
  pub bytes : List ℕ
  pub text : List ℕ
  pub read : Consumes lines left bytes
  pub stamped : Stamped f ps s bytes text rest count tally
  pub printed : Appends from to text

-- after one more read: it was the last, or the run goes on
abbrev pub GoesOn : FormatView → List Pulse → Settings → Option (List ℕ) → Option (List ℕ)
    → Option (List ℕ) → Option (List ℕ) → Progress → Result Bool RunFault → Type 0
GoesOn f ps s lines left from to state (Ok true) = Ran f ps s lines left from to state.tally
GoesOn f ps s lines left from to state (Ok false) =
    Underway f ps s lines left from to state.line.items state.count state.tally
GoesOn f ps s lines left from to state (Err fault) = Broke f ps s lines left from to fault

-- the text was printed, or after a fault only a front of it
abbrev pub PrintsAll : Option (List ℕ) → Option (List ℕ) → List ℕ → Result Bool RunFault → Type 0
PrintsAll old new text (Ok ended) = Appends old new text
PrintsAll old new text (Err fault) =
    (why : PrintFault) × (fault ≡ PrintFailed why) × AppendsFront old new text

-- why a run is broken off in which a line was not taken: what comes out for the lines before one
-- that is too long was printed
abbrev pub Stops : Option (List ℕ) → Option (List ℕ) → List ℕ → ℕ → TakeFault → RunFault → Type 0
Stops old new text count take.OutOfMemory fault = (fault ≡ OutOfMemory) × (new ≡ old)
Stops old new text count take.TooLong fault =
    ((fault ≡ TooLong (counted count 1)) × Appends old new text)
    ⊎ ((why : PrintFault) × (fault ≡ PrintFailed why) × AppendsFront old new text)
