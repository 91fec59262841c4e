-- A session of the parts of a dump is one of the dump.
use Rattle.std.proofs.Common.{◌≡◌, ap, ℕ, List, Option, Some, None, Result, Ok, Err, IfErr, inl, inr}
use Rattle.irig_codes.specs.Format.{FormatView}
use Rattle.irig_saved.specs.declared.saved.Saved.{Saved}
use Rattle.irig_vcd.specs.{Parts.dump_parts, declared.fault.VcdFault.VcdFault}
use Rattle.irig_recording.specs.Recording.{RecordingView}
use Rattle.irig_vcd.specs.declared.fault.VcdFault.TheVariants as fault
use Rattle.irig_edit.specs.Opened.Openings.{ArePartsOf, IsBad, IsJournalFault, IsOpened, IsTextOf, IsUnopened}
use Rattle.irig_edit.specs.{Opened.Opened.IsLineAtFault, Opened.Opened.state_of, Opened.Parts.HasNoSession, Opened.Parts.IsJournalOf, Opened.Parts.IsSessionOf}
use Rattle.irig_edit.specs.{Session.Machine.NoMarks, Session.Session.SessionView, Session.Session.started, State.State.recording_of}

pub err_so : {X Y : Type 0} (P Q : Y → Type 0) (r : Result X Y) → ((e : Y) → P e → Q e) → IfErr r P → IfErr r Q
err_so P Q (Ok x) so h = tt
err_so P Q (Err e) so h = so e h

-- what a dump says, if the journal is that of its text
pub parts_of : (wire : Option (List ℕ)) (bytes : List ℕ) (r : RecordingView) (text : Option (List ℕ)) (journal : Option Saved)
    → IsJournalOf text journal → dump_parts wire bytes ≡ Ok (r, text) → ArePartsOf wire bytes r journal
parts_of wire bytes r None None is read = read
parts_of wire bytes r (Some text) (Some saved) is read = (text, (read, is))
parts_of wire bytes r None (Some saved) is read = elim is [ ]
parts_of wire bytes r (Some text) None is read = elim is [ ]

pub parts_opened : (wire : Option (List ℕ)) (bytes : List ℕ) (r : RecordingView) (journal : Option Saved) (format : FormatView) (v : SessionView)
    → ArePartsOf wire bytes r journal → IsSessionOf r journal format v → IsOpened wire bytes format v
parts_opened wire bytes r None format v read is = inl (r, read, is)
parts_opened wire bytes r (Some saved) format v (text, (read, told)) is = inr (r, (text, (saved, read, told, is)))

-- no group is open in it
pub closed_session : (r : RecordingView) (journal : Option Saved) (format : FormatView) (v : SessionView) → IsSessionOf r journal format v
    → v.floor ≡ None
closed_session r None format v is = ap (λ (w : SessionView). w.floor) is.start
closed_session r (Some saved) format v is = ap (λ (w : SessionView). w.floor) is.session

-- a session without a journal
pub no_journal : (journal : Option Saved) (r : RecordingView) (format : FormatView) (v : SessionView) → journal ≡ None
    → (v ≡ started v.looks v.state) × (recording_of v.state ≡ r) × (v.state.format ≡ format)
    × NoMarks v.state.marks → IsSessionOf r journal format v
no_journal None r format v is (start, recording, same, none) =
    record { start = start; recording = recording; format = same; marks = none }
no_journal (Some saved) r format v is h = let bad : Some saved ≡ None = is in cc

-- a line at fault of a journal, as one of its text
line_of_text : (r : RecordingView) (text : List ℕ) (saved : Saved) (e : VcdFault) → IsTextOf text saved
    → IsBad (IsLineAtFault (state_of r saved) saved) e → IsBad (IsJournalFault r text) e
line_of_text r text saved (fault.BadJournal line) told h = inr (saved, told, h)
line_of_text r text saved fault.OutOfMemory told h = tt
line_of_text r text saved fault.Unclosed told h = elim h [ ]
line_of_text r text saved fault.NoTimescale told h = elim h [ ]
line_of_text r text saved fault.BadTimescale told h = elim h [ ]
line_of_text r text saved fault.BadVar told h = elim h [ ]
line_of_text r text saved fault.NoSuchWire told h = elim h [ ]
line_of_text r text saved fault.ManyWires told h = elim h [ ]
line_of_text r text saved fault.NotOneBit told h = elim h [ ]
line_of_text r text saved fault.NoEndDefinitions told h = elim h [ ]
line_of_text r text saved (fault.BadToken at) told h = elim h [ ]
line_of_text r text saved (fault.Backward at) told h = elim h [ ]
line_of_text r text saved (fault.TimeTooLarge at) told h = elim h [ ]
line_of_text r text saved fault.TooManyPulses told h = elim h [ ]

-- out of memory is the only fault with no line to be at fault
without_line : (wire : Option (List ℕ)) (bytes : List ℕ) (e : VcdFault) → IsBad (λ line. ⊥) e → IsUnopened wire bytes e
without_line wire bytes fault.OutOfMemory h = inl tt
without_line wire bytes (fault.BadJournal line) h = elim h [ ]
without_line wire bytes fault.Unclosed h = elim h [ ]
without_line wire bytes fault.NoTimescale h = elim h [ ]
without_line wire bytes fault.BadTimescale h = elim h [ ]
without_line wire bytes fault.BadVar h = elim h [ ]
without_line wire bytes fault.NoSuchWire h = elim h [ ]
without_line wire bytes fault.ManyWires h = elim h [ ]
without_line wire bytes fault.NotOneBit h = elim h [ ]
without_line wire bytes fault.NoEndDefinitions h = elim h [ ]
without_line wire bytes (fault.BadToken at) h = elim h [ ]
without_line wire bytes (fault.Backward at) h = elim h [ ]
without_line wire bytes (fault.TimeTooLarge at) h = elim h [ ]
without_line wire bytes fault.TooManyPulses h = elim h [ ]

pub parts_unopened : (wire : Option (List ℕ)) (bytes : List ℕ) (r : RecordingView) (journal : Option Saved) (e : VcdFault)
    → ArePartsOf wire bytes r journal → HasNoSession r journal e → IsUnopened wire bytes e
parts_unopened wire bytes r None e read bad = without_line wire bytes e bad
parts_unopened wire bytes r (Some saved) e (text, (read, told)) bad = inr (r, (text, (read, line_of_text r text saved e told bad)))
