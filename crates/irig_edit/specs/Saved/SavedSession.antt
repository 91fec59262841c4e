-- What a session is saved as: docs/FORMATS.md, "The saved journal". This project's own.
use Rattle.std.specs.Prelude.{ℕ, List, ◌++◌, map, reverse}
use Rattle.irig_saved.specs.{SavedText.journal_section, declared.saved.Saved.Saved}
use Rattle.irig_recording.specs.FileText.{file_text}
use Rattle.irig_edit.specs.{Saved.Saved.saved_step, Session.Work.Work, State.State.recording_of}

-- the journal of a session: its state without the pulses, and its steps, those back with the oldest
-- first
abbrev pub saved_of : Work → Saved
saved_of w = record {
  kind = w.state.format.kind;
  expression = w.state.format.expression;
  cursor = w.cursor;
  marks = w.state.marks;
  past = reverse (map saved_step w.past);
  future = map saved_step w.future;
}

-- the text of a session: the dump of its state, and its journal after it
unfoldable pub saved_text : Work → List ℕ
saved_text w = file_text (recording_of w.state) ++ journal_section (saved_of w)
