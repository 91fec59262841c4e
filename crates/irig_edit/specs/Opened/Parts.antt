-- A session of what a dump says, part by part. This project's own.
use Rattle.std.specs.Prelude.{◌≡◌, ℕ, List, Option, Some, None}
use Rattle.irig_codes.specs.Format.{FormatView}
use Rattle.irig_saved.specs.{Faults.IsFault, declared.saved.Saved.Saved}
use Rattle.irig_recording.specs.Recording.{RecordingView}
use Rattle.irig_vcd.specs.declared.fault.VcdFault.{VcdFault}
use Rattle.irig_edit.specs.Opened.Opened.{IsAccepted, IsLineAtFault, head_fault, state_of}
use Rattle.irig_edit.specs.Opened.Openings.{IsBad, IsStart, IsTextOf}
use Rattle.irig_edit.specs.Session.Session.{SessionView}

-- the journal that a text is of, if there is a text
abbrev pub IsJournalOf : Option (List ℕ) → Option Saved → Type 0
IsJournalOf None None = Unit {0}
IsJournalOf (Some text) (Some saved) = IsTextOf text saved
IsJournalOf _ _ = ⊥

-- the text has a line of wrong form, and this is the first; or out of memory
abbrev pub HasBadText : Option (List ℕ) → VcdFault → Type 0
HasBadText None = IsBad (λ line. ⊥)
HasBadText (Some text) = IsBad (λ line. IsFault line text)

-- the session of a recording with its journal; in the format if there is none
abbrev pub IsSessionOf : RecordingView → Option Saved → FormatView → SessionView → Type 0
IsSessionOf r None format = IsStart r format
IsSessionOf r (Some saved) format = IsAccepted (state_of r saved) saved

-- the journal has a line at fault, and this is the first; or out of memory
abbrev pub HasNoSession : RecordingView → Option Saved → VcdFault → Type 0
HasNoSession r None = IsBad (λ line. ⊥)
HasNoSession r (Some saved) = IsBad (IsLineAtFault (state_of r saved) saved)

-- no line above the steps of the journal is at fault, if there is one
abbrev pub HasHead : RecordingView → Option Saved → Type 0
HasHead r None = Unit {0}
HasHead r (Some saved) = head_fault (state_of r saved) saved ≡ None
