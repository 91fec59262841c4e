-- When a frame that read well has other control functions after an edit, and that mends it. This
-- project's own.
use Rattle.std.specs.Prelude.{◌≡◌, ◌<◌, ◌==◌, ◌&&◌, ◌||◌, ℕ, Bool, true, List, Option, Some}
use Rattle.irig_codes.specs.Format.{FormatView, control_count_of}
use Rattle.irig_safety.specs.Functions.{function_of, shares}
use Rattle.irig_safety.specs.{OddFunctions.is_by_width, Others.is_told, Parity.is_parity_mended}
use Rattle.irig_safety.specs.Terms.{OthersView}
use Rattle.irig_safety.specs.Witnesses.{allows_from, allows_to}
use Rattle.irig_safety.specs.declared.shown.Shown.{Shown}

-- the frame with these control functions instead of its own
abbrev pub with_control : Option ℕ → Shown → Shown
with_control control x = record x { fields = record x.fields { control = control } }

-- The frame between two others has other control functions now, and nothing else of it is another:
-- both have those that it has now.
abbrev pub HasControlOfBoth : Option Shown → Shown → Option Shown → Shown → Type 0
HasControlOfBoth (Some a) o (Some b) n =
    (with_control n.fields.control o ≡ n)
    × (a.fields.control ≡ n.fields.control)
    × (b.fields.control ≡ n.fields.control)
HasControlOfBoth a o b n = ⊥

-- one control function changed alone, and by that the frame has the parity that the others have;
-- and no frame next to it contradicts its time
abbrev pub is_by_parity : FormatView → List Shown → Option Shown → Shown → Option Shown → Shown
    → Bool
is_by_parity f others a o b n =
    allows_from f a n && allows_to f n b && is_parity_mended f others o n

-- A control function of a frame is as it was; or most frames of its time in other recordings have
-- it as it is now, and something here says so, too: the frames next to it on both sides have it so,
-- or the parity, or its pulse is odd.
abbrev pub is_function_mended : FormatView → OthersView → Option Shown → Shown → Option Shown
    → Shown → ℕ → Bool
is_function_mended f others a o b n k =
    (function_of k o == function_of k n)
    || (is_told k others.frames n
    && ((shares k a n && shares k b n) || is_by_parity f others.frames a o b n
    || is_by_width others o n k))

abbrev pub AreFunctionsMended : FormatView → OthersView → Option Shown → Shown → Option Shown
    → Shown → Type 0
AreFunctionsMended f others a o b n =
    (k : ℕ) → k < control_count_of f → is_function_mended f others a o b n k ≡ true

-- The frame has other control functions now, and nothing else of it is another: each of these is
-- mended.
abbrev pub HasControlOfMost : FormatView → OthersView → Option Shown → Shown → Option Shown → Shown
    → Type 0
HasControlOfMost f others a o b n =
    (with_control n.fields.control o ≡ n) × AreFunctionsMended f others a o b n
