-- The text of a track, pulse by pulse. This project's own.
use Rattle.std.specs.Prelude.{◌++◌, ℕ, true, false, List, [], ◌∷◌, Option, Some, None, drop}
use Rattle.irig_recording.specs.FileText.{file_text, lines_at, length_line}
use Rattle.irig_recording.specs.{Recording.recording_view, declared.pulse.Pulse.Pulse}
use Rattle.irig_track.specs.declared.track_text.Next.TheVariants.{Header, Lines, Nothing}
use Rattle.irig_track.specs.{declared.track_text.Next.Next, Edges.edges_of, Track.TrackView}

-- the lines of pulses, in order
abbrev pub lines_of : List Pulse → List ℕ
lines_of [] = []
lines_of (p ∷ ps) = lines_at true p.rise ++ (lines_at false p.fall ++ lines_of ps)

-- the last fall of pulses, or else the last edge before them
abbrev pub last_fall : ℕ → List Pulse → ℕ
last_fall last [] = last
last_fall last (p ∷ ps) = last_fall p.fall ps

-- the lines of pulses and of a length, after an edge
abbrev pub lines_after : ℕ → List Pulse → ℕ → List ℕ
lines_after last ps micros = lines_of ps ++ length_line (last_fall last ps) micros

-- what is still to come of the text of a track, by the last edge and what comes next
abbrev pub still_to_come : TrackView → ℕ → Next → List ℕ
still_to_come t last Header = file_text (recording_view t.micros (edges_of t.pulses))
still_to_come t last (Lines at) = lines_after last (drop at t.pulses) t.micros
still_to_come t last Nothing = []

-- what comes next, if it is the lines of the pulse with a number, or else nothing
abbrev pub coming : Option ℕ → Next
coming (Some at) = Lines at
coming None = Nothing
