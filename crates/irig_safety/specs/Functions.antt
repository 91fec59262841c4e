-- The control functions of a frame, and which elements carry them, by the layouts of IRIG Standard
-- 200-04.
use Rattle.std.specs.Prelude.{◌+◌, ◌/◌, ◌%◌, ◌^◌, ◌==◌, ℕ, Bool, false, Option, Some, None}
use Rattle.std.specs.Prelude.{if◌then◌else◌, unwrap_or}
use Rattle.irig_codes.specs.Format.{FormatView, has_year}
use Rattle.irig_codes.specs.declared.format.Kind.TheVariants.{A, B, E, G}
use Rattle.irig_codes.specs.declared.{format.Kind.Kind}
use Rattle.irig_safety.specs.declared.shown.Shown.{Shown}

-- the element with the first control function, with the year and without it
abbrev pub first_function : Kind → Bool → ℕ
first_function A y = if y then 60 else 50
first_function B y = if y then 60 else 50
first_function E y = if y then 60 else 50
first_function G y = if y then 70 else 60

-- the element with a control function, both from 0: they are in nines, and a position identifier
-- follows each nine
abbrev pub function_element : FormatView → ℕ → ℕ
function_element f k = first_function f.kind (has_year f.expression) + k + k / 9

-- a control function of a frame: 1 or 0
abbrev pub function_of : ℕ → Shown → ℕ
function_of k x = unwrap_or x.fields.control 0 / 2 ^ k % 2

-- another frame is there, and has the control function as the frame has it
abbrev pub shares : ℕ → Option Shown → Shown → Bool
shares k None y = false
shares k (Some x) y = function_of k x == function_of k y
