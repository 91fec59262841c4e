-- What other recordings of the same code say of a frame. This project's own.
use Rattle.std.specs.Prelude.{◌==◌, ◌&&◌, ◌||◌, ◌++◌, ◌+◌, ℕ, Bool, true, false}
use Rattle.std.specs.Prelude.{List, [], ◌∷◌, Option, Some, None, if◌then◌else◌, nat_lt, not, slice_get}
use Rattle.std.specs.Prelude.{unwrap_or}
use Rattle.irig_codes.specs.Format.{FormatView}
use Rattle.irig_codes.specs.declared.fields.Fields.{Fields}
use Rattle.irig_safety.specs.{Bearing.agrees, Functions.function_of, declared.shown.Shown.Shown}

-- two frames have the same time of day, day and year
abbrev pub is_of_time : Fields → Fields → Bool
is_of_time g h =
    (g.days == h.days) && (g.hours == h.hours) && (g.minutes == h.minutes)
    && (g.seconds == h.seconds)
    && (unwrap_or g.hundredths 0 == unwrap_or h.hundredths 0)
    && (unwrap_or g.year 100 == unwrap_or h.year 100)

-- another frame has the time of a frame, and a control function as the frame has it, or otherwise
abbrev pub is_vote : Bool → ℕ → Shown → Shown → Bool
is_vote so k x y =
    is_of_time x.fields y.fields && is_so so (function_of k x == function_of k y) where
      is_so : Bool → Bool → Bool
      is_so true same = same
      is_so false same = not same

-- how many others do
abbrev pub votes : Bool → ℕ → List Shown → Shown → ℕ
votes so k [] y = 0
votes so k (x ∷ others) y = (if is_vote so k x y then 1 else 0) + votes so k others y

-- most of the others that have its time have the control function as the frame has it
abbrev pub is_told : ℕ → List Shown → Shown → Bool
is_told k others y = nat_lt (votes false k others y) (votes true k others y)

-- one of the others has the time of a frame
abbrev pub is_among : List Shown → Shown → Bool
is_among [] y = false
is_among (x ∷ others) y = is_of_time x.fields y.fields || is_among others y

-- the frame before it agrees with a frame, or the one after it
abbrev pub is_backed_from : FormatView → Option Shown → Shown → Bool
is_backed_from f None y = false
is_backed_from f (Some a) y = agrees f a y

abbrev pub is_backed_to : FormatView → Shown → Option Shown → Bool
is_backed_to f y None = false
is_backed_to f y (Some b) = agrees f y b

abbrev pub is_backed : FormatView → Option Shown → Shown → Option Shown → Bool
is_backed f a y b = is_backed_from f a y || is_backed_to f y b

-- the frames of a recording that say something of another recording: those with which a frame next
-- to them agrees
abbrev pub backed_from : FormatView → Option Shown → List Shown → List Shown
backed_from f a [] = []
backed_from f a (y ∷ ys) =
    (if is_backed f a y (slice_get ys 0) then y ∷ [] else [])
    ++ backed_from f (Some y) ys

abbrev pub backed : FormatView → List Shown → List Shown
backed f frames = backed_from f None frames
