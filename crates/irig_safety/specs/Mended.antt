-- When a frame that read well is another one after an edit, and that mends it. This project's own.
use Rattle.std.specs.Prelude.{◌≡◌, ◌⊎◌, ◌&&◌, ◌||◌, Bool, true, false, not, Option, Some, None}
use Rattle.irig_codes.specs.Format.{FormatView}
use Rattle.irig_safety.specs.{Bearing.allows, Others.is_among, Terms.OthersView, Witnesses.is_borne}
use Rattle.irig_safety.specs.MendedFunctions.{HasControlOfBoth, HasControlOfMost}
use Rattle.irig_safety.specs.declared.shown.Shown.{Shown}

-- The time of the frame between two others was wrong: both contradict it, and they bear out what it
-- is now.
abbrev pub is_mended_between : FormatView → Option Shown → Option Shown → Shown → Option Shown
    → Option Shown → Shown → Bool
is_mended_between f a2 (Some a) o (Some b) b2 n =
    not (allows f a o) && not (allows f o b) && is_borne f a2 (Some a) (Some b) b2 n
is_mended_between f a2 a o b b2 n = false

-- a frame before it is there and contradicts it, or one after it
abbrev pub contradicts_from : FormatView → Option Shown → Shown → Bool
contradicts_from f None y = false
contradicts_from f (Some a) y = not (allows f a y)

abbrev pub contradicts_to : FormatView → Shown → Option Shown → Bool
contradicts_to f y None = false
contradicts_to f y (Some b) = not (allows f y b)

-- nothing is on one side of it, and the two frames on the other contradict it
abbrev pub is_refuted : FormatView → Option Shown → Option Shown → Shown → Option Shown
    → Option Shown → Bool
is_refuted f a2 None o None b2 = false
is_refuted f a2 (Some a) o None b2 = contradicts_from f a2 o && contradicts_from f (Some a) o
is_refuted f a2 None o (Some b) b2 = contradicts_to f o (Some b) && contradicts_to f o b2
is_refuted f a2 (Some a) o (Some b) b2 = false

-- The time of the first frame was wrong, or of the last: the two next to it contradict it, and they
-- bear out what it is now; and another recording has a frame of that time, and none has one of the
-- time that it was.
abbrev pub is_mended_at_end : FormatView → OthersView → Option Shown → Option Shown → Shown
    → Option Shown → Option Shown → Shown → Bool
is_mended_at_end f others a2 a o b b2 n =
    is_refuted f a2 a o b b2 && is_borne f a2 a b b2 n && is_among others.frames n
    && not (is_among others.frames o)

-- its time is mended
abbrev pub is_time_mended : FormatView → OthersView → Option Shown → Option Shown → Shown
    → Option Shown → Option Shown → Shown → Bool
is_time_mended f others a2 a o b b2 n =
    is_mended_between f a2 a o b b2 n || is_mended_at_end f others a2 a o b b2 n

-- its time is mended, or its control functions alone are
abbrev pub Mends : FormatView → OthersView → Option Shown → Option Shown → Shown → Option Shown
    → Option Shown → Shown → Type 0
Mends f others a2 a o b b2 n =
    (is_time_mended f others a2 a o b b2 n ≡ true)
    ⊎ (HasControlOfBoth a o b n ⊎ HasControlOfMost f others a o b n)
