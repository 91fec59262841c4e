-- When what a repair leads to may stay, and which is its first fault if it may not. This project's
-- own.
use Rattle.std.specs.Prelude.{◌⊎◌, List}
use Rattle.irig_edit.specs.{State.State.State}
use Rattle.irig_guarding.specs.{Controls.AreBorneBy, Controls.IsUnborneBy, SafeBy.IsSafeAt}
use Rattle.irig_guarding.specs.{SafeBy.located_by, Standing.StandBy, Standing.StrayBy}
use Rattle.irig_guarding.specs.{Judged.IsJudged, Judged.IsUnjudged, Reading.fine_frames}
use Rattle.irig_guarding.specs.{Steps.IsGoneBy, Steps.StepsStay}
use Rattle.irig_safety.specs.{Faults.IsFault, Faults.IsSpoiledBy, declared.fault.Fault.Fault}
use Rattle.irig_safety.specs.{Moved.located, Original.OriginalView, Original.others_of, Safety.IsSafe}
use Rattle.irig_safety.specs.{Safety.NoneIsSpoiled}
use Rattle.irig_safety.specs.declared.shown.Shown.{Shown}

-- the frames of a state are safe by those of the recording at these places, and none is spoiled of
-- those that read well before the repair
abbrev pub FinesStayAt : OriginalView → List Shown → State → Type 0
FinesStayAt opened last s = IsSafeAt opened s × NoneIsSpoiled last (fine_frames s)

-- so, and the loose pulses of the recording are in their places, and there is a frame to go by
abbrev pub StaysAt : OriginalView → List Shown → State → Type 0
StaysAt opened last s = FinesStayAt opened last s × StepsStay opened s
    × IsJudged opened.frames (fine_frames s)

-- so by the places where all these are, if they may move
abbrev pub MayStay : OriginalView → List Shown → State → Type 0
MayStay opened last s =
    StaysAt (located_by opened s) (located opened.terms.moved last (fine_frames s)) s

-- the first fault of frames whose times are not safe by those of the recording; or that are, but
-- whose control functions are not; or both are, but their pulses are not; or all are, but of those
-- that read well before the repair some are spoiled
abbrev pub HasFineFaultAt : OriginalView → List Shown → State → Fault → Type 0
HasFineFaultAt opened last s why =
    IsFault s.format (others_of opened) opened.frames (fine_frames s) why
    ⊎ (IsSafe s.format (others_of opened) opened.frames (fine_frames s)
    × (IsUnborneBy opened.frames opened s why
    ⊎ (AreBorneBy opened.frames opened s × (StrayBy opened.frames opened s why
    ⊎ (StandBy opened.frames opened s × IsSpoiledBy last (fine_frames s) why)))))

-- the first fault of these; or there is none, but a loose pulse is gone, or there is no frame to go
-- by
abbrev pub HasFaultAt : OriginalView → List Shown → State → Fault → Type 0
HasFaultAt opened last s why =
    HasFineFaultAt opened last s why
    ⊎ (FinesStayAt opened last s
    × (IsGoneBy opened s why
    ⊎ (StepsStay opened s × IsUnjudged opened.frames (fine_frames s) why)))

-- so by the places where all these are, if they may move
abbrev pub HasFault : OriginalView → List Shown → State → Fault → Type 0
HasFault opened last s why =
    HasFaultAt (located_by opened s) (located opened.terms.moved last (fine_frames s)) s why
