-- What the opening of a dump answers. This project's own.
use Rattle.std.specs.Prelude.{◌≡◌, ◌⊎◌, ℕ, List, Option, Some, None, Result, Ok, Err}
use Rattle.irig_codes.specs.Format.{FormatView}
use Rattle.irig_saved.specs.Faults.{IsFault, ReachesSteps}
use Rattle.irig_saved.specs.{Ranges.IsSaved, SavedText.journal_text, declared.saved.Saved.Saved}
use Rattle.irig_vcd.specs.declared.fault.VcdFault.TheVariants.{BadJournal, OutOfMemory}
use Rattle.irig_vcd.specs.{Answer.IsFaultOf, Parts.dump_parts, declared.fault.VcdFault.VcdFault}
use Rattle.irig_recording.specs.Recording.{RecordingView}
use Rattle.irig_edit.specs.Opened.Opened.{IsAccepted, IsLineAtFault, head_fault, state_of}
use Rattle.irig_edit.specs.Session.Session.{SessionView, started}
use Rattle.irig_edit.specs.{Session.Machine.NoMarks, State.State.recording_of}

-- the session of a recording in a format: its cursor is at the last pulse, no mark is set, and
-- no step can be undone
pub record IsStart (r : RecordingView) (f : FormatView) (v : SessionView) : Type 0 where
  pub start : v ≡ started v.looks v.state
  pub recording : recording_of v.state ≡ r
  pub format : v.state.format ≡ f
  pub marks : NoMarks v.state.marks

-- a text is that of a saved journal
pub record IsTextOf (text : List ℕ) (saved : Saved) : Type 0 where
  pub ranges : IsSaved saved
  pub same : text ≡ journal_text saved

-- what a dump says of the wire, and the journal that it carries
abbrev pub ArePartsOf : Option (List ℕ) → List ℕ → RecordingView → Option Saved → Type 0
ArePartsOf wire bytes r None = dump_parts wire bytes ≡ Ok (r, None)
ArePartsOf wire bytes r (Some saved) =
    (text : List ℕ) × ((dump_parts wire bytes ≡ Ok (r, Some text)) × IsTextOf text saved)

-- of a dump without a journal its session in the format; else the one that the journal makes
abbrev pub IsOpened : Option (List ℕ) → List ℕ → FormatView → SessionView → Type 0
IsOpened wire bytes format v =
    ((r : RecordingView) × (dump_parts wire bytes ≡ Ok (r, None)) × IsStart r format v)
    ⊎ ((r : RecordingView) × ((text : List ℕ) × ((saved : Saved) ×
    (dump_parts wire bytes ≡ Ok (r, Some text)) × IsTextOf text saved
    × IsAccepted (state_of r saved) saved v)))

-- the line at fault of a journal's text: the first of wrong form, or else the first in the order of
-- judging
abbrev pub IsJournalFault : RecordingView → List ℕ → ℕ → Type 0
IsJournalFault r text line =
    IsFault line text
    ⊎ ((saved : Saved) × IsTextOf text saved × IsLineAtFault (state_of r saved) saved line)

-- a fault of the journal at a line for which this holds, or out of memory
abbrev pub IsBad : (ℕ → Type 0) → VcdFault → Type 0
IsBad P (BadJournal line) = P line
IsBad P OutOfMemory = Unit {0}
IsBad P _ = ⊥

-- the fault of the dump, or else that of its journal
abbrev pub IsUnopened : Option (List ℕ) → List ℕ → VcdFault → Type 0
IsUnopened wire bytes fault =
    IsFaultOf fault (dump_parts wire bytes)
    ⊎ ((r : RecordingView) × ((text : List ℕ) × (
    (dump_parts wire bytes ≡ Ok (r, Some text)) × IsBad (IsJournalFault r text) fault)))

-- what a dump says can be read, so memory may run out after it: for the session; if it carries a
-- journal, only for the lines of its steps, or if no line above its steps is at fault
abbrev pub MayBeShort : Result (RecordingView × Option (List ℕ)) VcdFault → Type 0
MayBeShort (Err e) = ⊥
MayBeShort (Ok (r, None)) = Unit {0}
MayBeShort (Ok (r, Some text)) =
    ReachesSteps text
    ⊎ ((saved : Saved) × IsTextOf text saved × (head_fault (state_of r saved) saved ≡ None))
