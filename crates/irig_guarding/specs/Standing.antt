-- When the pulses of all frames of a state are where they may be. This project's own.
use Rattle.std.specs.Prelude.{◌≤◌, List, [], ◌∷◌, None}
use Rattle.std.specs.List.{AllByRecursion}
use Rattle.irig_edit.specs.State.State.{State}
use Rattle.irig_safety.specs.Anchors.{anchors_among}
use Rattle.irig_safety.specs.{Faults.NextOrLater, Original.OriginalView}
use Rattle.irig_safety.specs.{declared.fault.Fault.Fault}
use Rattle.irig_safety.specs.declared.fault.Fault.TheVariants.{Misplaced}
use Rattle.irig_safety.specs.declared.shown.Shown.{Shown}
use Rattle.irig_guarding.specs.{Reading.seen_frames, declared.seen.Seen.Seen}
use Rattle.irig_guarding.specs.Pulses.{StandFrom, StrayFrom}

-- at least 60 pulses of a frame are anchors
abbrev pub IsRooted : OriginalView → State → Seen → Type 0
IsRooted o s y = 60 ≤ anchors_among o.pulses s.pulses y.marker 100

-- the first frame of which that does not hold
abbrev pub UnrootedFrom : OriginalView → State → List Seen → Fault → Type 0
UnrootedFrom o s [] why = ⊥
UnrootedFrom o s (y ∷ new) why =
    NextOrLater (IsRooted o s y) (Misplaced y.shown) why (UnrootedFrom o s new why)

-- the pulses of all frames are where they may be. If no frame of the recording reads well, most of
-- each are anchors
abbrev pub StandBy : List Shown → OriginalView → State → Type 0
StandBy [] o s = AllByRecursion (IsRooted o s) (seen_frames s)
StandBy (x ∷ frames) o s = StandFrom o s o.markers None None (x ∷ frames) (seen_frames s)

-- the first frame of which they do not
abbrev pub StrayBy : List Shown → OriginalView → State → Fault → Type 0
StrayBy [] o s why = UnrootedFrom o s (seen_frames s) why
StrayBy (x ∷ frames) o s why = StrayFrom o s o.markers None None (x ∷ frames) (seen_frames s) why
