-- The control functions of frames whose pulses are odd, and what these decide. This project's own.
use Rattle.std.specs.Prelude.{◌==◌, ◌&&◌, ◌||◌, ◌++◌, ℕ, zero, suc, Bool, false, List, [], ◌∷◌}
use Rattle.std.specs.Prelude.{if◌then◌else◌}
use Rattle.irig_codes.specs.Format.{FormatView, control_count_of}
use Rattle.irig_recording.specs.declared.pulse.Pulse.{Pulse}
use Rattle.irig_safety.specs.{Functions.function_element, Others.is_of_time, Others.is_told}
use Rattle.irig_safety.specs.{Terms.OthersView, Widths.is_odd}
use Rattle.irig_safety.specs.declared.{odd.Odd.Odd, shown.Shown.Shown}

-- a control function of a frame, if its pulse is odd
abbrev pub odd_if : Bool → Shown → ℕ → List Odd
odd_if so x k = if so then record { frame = x; function = k } ∷ [] else []

-- those of the first k control functions of a frame whose pulses are odd
abbrev pub odd_among : FormatView → List Pulse → ℕ → Shown → ℕ → List Odd
odd_among f pulses marker x zero = []
odd_among f pulses marker x (suc k) =
    odd_among f pulses marker x k
    ++ odd_if (is_odd f pulses marker (function_element f k)) x k

-- all that are
abbrev pub odd_of : FormatView → List Pulse → ℕ → Shown → List Odd
odd_of f pulses marker x = odd_among f pulses marker x (control_count_of f)

-- it is this control function of a frame with this rise and this time
abbrev pub is_odd_of : Odd → Shown → ℕ → Bool
is_odd_of y x k =
    (y.frame.rise == x.rise) && is_of_time y.frame.fields x.fields && (y.function == k)

-- one of them is
abbrev pub has_odd : List Odd → Shown → ℕ → Bool
has_odd [] x k = false
has_odd (y ∷ odd) x k = is_odd_of y x k || has_odd odd x k

-- the pulse of a control function of the former frame is odd, and most frames of its time in other
-- recordings that have no such pulse have the function as the frame has it now
abbrev pub is_by_width : OthersView → Shown → Shown → ℕ → Bool
is_by_width others o n k = has_odd others.odd o k && is_told k others.even n
