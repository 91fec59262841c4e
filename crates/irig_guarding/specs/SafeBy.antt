-- When the frames of a state are safe by those of the recording: their times, their control
-- functions and their pulses. This project's own.
use Rattle.irig_edit.specs.State.State.{State}
use Rattle.irig_safety.specs.Original.{OriginalView, others_of, with_frames}
use Rattle.irig_safety.specs.{Moved.located, Safety.IsSafe}
use Rattle.irig_guarding.specs.{Standing.StandBy, Reading.fine_frames}
use Rattle.irig_guarding.specs.Controls.{AreBorneBy}

-- the frames of a state are safe by those of the recording at some places: their times, their
-- control functions, and their pulses
abbrev pub IsSafeAt : OriginalView → State → Type 0
IsSafeAt o s = IsSafe s.format (others_of o) o.frames (fine_frames s)
    × AreBorneBy o.frames o s × StandBy o.frames o s

-- the recording, its frames where they are in a state if they may move
abbrev pub located_by : OriginalView → State → OriginalView
located_by o s = with_frames (located o.terms.moved o.frames (fine_frames s)) o

-- the frames of a state are safe by those of the recording
abbrev pub IsSafeBy : OriginalView → State → Type 0
IsSafeBy o s = IsSafeAt (located_by o s) s
