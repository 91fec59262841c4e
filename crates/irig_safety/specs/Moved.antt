-- Where the frames of a recording are after an edit that moves them. This project's own.
use Rattle.std.specs.Prelude.{◌==◌, Bool, List, [], ◌∷◌, Option, Some, None, if◌then◌else◌}
use Rattle.std.specs.Prelude.{slice_get}
use Rattle.irig_safety.specs.{Calendar.clock_of, declared.shown.Shown.Shown}

-- the frames from the first one on that has the time of a frame
abbrev pub from_time : Shown → List Shown → List Shown
from_time x [] = []
from_time x (n ∷ new) =
    if clock_of x.fields == clock_of n.fields then n ∷ new else from_time x new

-- a frame where another one is, if there is one
abbrev pub moved_to : Shown → Option Shown → Shown
moved_to x None = x
moved_to x (Some n) = record x { rise = n.rise }

-- what is after the first of the frames that were found; all, if none was
abbrev pub rest_of : List Shown → List Shown → List Shown
rest_of [] new = new
rest_of (n ∷ found) new = found

-- each former frame where the next frame is that has its time; one without such a frame where it
-- was
abbrev pub moved_in : List Shown → List Shown → List Shown
moved_in [] new = []
moved_in (x ∷ old) new =
    moved_to x (slice_get (from_time x new) 0) ∷ moved_in old (rest_of (from_time x new) new)

-- the former frames where they are now if frames may move, and else where they were
abbrev pub located : Bool → List Shown → List Shown → List Shown
located moved old new = if moved then moved_in old new else old
