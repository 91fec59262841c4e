-- A window of a dump: the part of it between two times, in microseconds. This project's own.
use Rattle.std.specs.Prelude.{◌≡◌, ◌<◌, ◌+◌, ◌-◌, ℕ, List, Option, Some, None, Result, Ok, map, min}
use Rattle.irig_vcd.specs.{Answer.◌>>=◌, Answer.pair_of, Dump.changes_of, Dump.journals_of}
use Rattle.irig_vcd.specs.{Dump.recorded_up_to, Extent.most_pulses, Extent.short, Level.Change}
use Rattle.irig_vcd.specs.{Level.change, Level.level_by_changes, Parts.one_journal}
use Rattle.irig_vcd.specs.declared.extent.Extent.{Extent}
use Rattle.irig_vcd.specs.{declared.fault.VcdFault.VcdFault, declared.window.Window.Window}
use Rattle.irig_recording.specs.Recording.{RecordingView, level_by_edges}

-- the microsecond of a window that a time falls on: 0 before it, its length after it
abbrev pub moved : Option Window → ℕ → ℕ
moved None t = t
moved (Some w) t = min t w.to - w.from

-- the changes of a dump, each at its microsecond of a window: the last one at 0 has the level that
-- the window begins with
abbrev pub within : Option Window → List Change → List Change
within None changes = changes
within (Some w) changes = map (λ c. change (min c.time w.to - w.from) c.high) changes

-- the recording of what is kept of a dump that makes these changes up to a last time
abbrev pub recorded_in : Extent → List Change → ℕ → Result RecordingView VcdFault
recorded_in extent changes end =
    recorded_up_to (most_pulses extent) (within extent.window changes) (moved extent.window end)

-- the recording of what is kept of a dump, of the wire that a name means, or of the one wire, or
-- the first fault of the whole dump
unfoldable pub extent_dump : Extent → Option (List ℕ) → List ℕ → Result RecordingView VcdFault
extent_dump extent wire bytes =
    changes_of wire bytes >>= λ changes. recorded_in extent changes.0 changes.1

-- the edges of a recording of a window give, at each microsecond below its length, the level that
-- the whole dump has there, and it is as long as the window or as far as the dump goes
abbrev pub TellsWindow : Window → Option (List ℕ) → List ℕ → RecordingView → Type 0
TellsWindow w wire bytes r =
    (changes : List Change) × (last : ℕ) × (changes_of wire bytes ≡ Ok (changes, last))
    × (r.micros ≡ min last w.to - w.from)
    × ((u : ℕ) → u < r.micros → level_by_edges u r.edges ≡ level_by_changes changes (w.from + u))

-- a window between two times
abbrev pub window_of : ℕ → ℕ → Window
window_of from to = record { from = from; to = to }

-- two recordings, one after the other, have the length of a third one, and at each microsecond its
-- level
abbrev pub AreJoined : RecordingView → RecordingView → RecordingView → Type 0
AreJoined first second both =
    (both.micros ≡ first.micros + second.micros)
    × ((u : ℕ) → u < first.micros → level_by_edges u first.edges ≡ level_by_edges u both.edges)
    × ((u : ℕ) → u < second.micros
    → level_by_edges u second.edges ≡ level_by_edges (first.micros + u) both.edges)

-- that recording, and the text of the journal of the whole dump
unfoldable pub extent_parts : Extent → Option (List ℕ) → List ℕ
    → Result (RecordingView × Option (List ℕ)) VcdFault
extent_parts extent wire bytes = do
  recording ← extent_dump extent wire bytes
  journal ← one_journal (journals_of wire bytes)
  pair_of recording journal

-- the same of a window of a dump, or of all of it, with at most 2^22 pulses
abbrev pub dump_in : Option Window → Option (List ℕ) → List ℕ → Result RecordingView VcdFault
dump_in window wire bytes = extent_dump (short window) wire bytes

abbrev pub parts_in : Option Window → Option (List ℕ) → List ℕ
    → Result (RecordingView × Option (List ℕ)) VcdFault
parts_in window wire bytes = extent_parts (short window) wire bytes
