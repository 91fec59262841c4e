-- Which of the frames next to a place are heard. This project's own.
use Rattle.std.specs.Prelude.{◌&&◌, ◌||◌, Bool, false, not, Option, Some, None, if◌then◌else◌}
use Rattle.irig_codes.specs.Format.{FormatView}
use Rattle.irig_safety.specs.{Bearing.allows, declared.shown.Shown.Shown}
use Rattle.irig_safety.specs.declared.witnesses.Witnesses.{Witnesses}

-- a frame is overruled: both others contradict it, and do not contradict each other
abbrev pub is_overruled : FormatView → Option Shown → Option Shown → Option Shown → Bool
is_overruled f (Some a) (Some b) (Some c) =
    not (allows f a b) && not (allows f b c) && allows f a c
is_overruled f a b c = false

-- nothing is on one side, and the two on the other contradict each other
abbrev pub is_disputed : FormatView → Option Shown → Option Shown → Option Shown → Bool
is_disputed f None (Some p) (Some q) = not (allows f p q)
is_disputed f x p q = false

-- these are next to a place
abbrev pub witnesses : Option Shown → Option Shown → Option Shown → Option Shown → Witnesses
witnesses a2 a b b2 = record { before2 = a2; before = a; after = b; after2 = b2 }

-- those that are heard: not the one before it or the one after it, if that is overruled; and none
-- of two on one side, if they contradict each other and the other has none
abbrev pub heard : FormatView → Option Shown → Option Shown → Option Shown → Option Shown
    → Witnesses
heard f a2 a b b2 =
    if is_overruled f a b b2 && not (is_overruled f a2 a b) then witnesses a2 a b2 None
    else if is_overruled f a2 a b && not (is_overruled f a b b2) then witnesses None a2 b b2
    else if is_disputed f a b b2 || is_disputed f b a2 a then witnesses None None None None
    else witnesses a2 a b b2
