-- When the parity of a frame says that it was wrong and is right now. IEEE 1344 and IEEE C37.118
-- have an element for it: with it the ones up to there are odd in number in each frame, or even in
-- each. That is element 75, from 0.
use Rattle.std.specs.Prelude.{◌+◌, ◌*◌, ◌-◌, ◌/◌, ◌%◌, ◌==◌, ◌&&◌, ℕ, zero, suc, Bool, not, nat_le}
use Rattle.std.specs.Prelude.{List, [], ◌∷◌, if◌then◌else◌, unwrap_or}
use Rattle.irig_codes.specs.Format.{FormatView, control_count_of}
use Rattle.irig_codes.specs.declared.fields.Fields.{Fields}
use Rattle.irig_safety.specs.Functions.{function_element, function_of}
use Rattle.irig_safety.specs.declared.shown.Shown.{Shown}

-- how many ones a decimal digit has in binary
abbrev pub ones_of_digit : ℕ → ℕ
ones_of_digit d = d % 2 + d / 2 % 2 + d / 4 % 2 + d / 8 % 2

-- how many a number of three digits has, each in binary
abbrev pub ones_of_number : ℕ → ℕ
ones_of_number n =
    ones_of_digit (n % 10) + ones_of_digit (n / 10 % 10) + ones_of_digit (n / 100 % 10)

-- how many the elements of the time and of the year have
abbrev pub ones_of_time : Fields → ℕ
ones_of_time g =
    ones_of_number g.seconds + ones_of_number g.minutes + ones_of_number g.hours
    + ones_of_number g.days + ones_of_number (unwrap_or g.hundredths 0)
    + ones_of_number (unwrap_or g.year 0)

-- how many the first k control functions have, as far as they are at most at element 75
abbrev pub ones_of_functions : FormatView → ℕ → Shown → ℕ
ones_of_functions f zero x = 0
ones_of_functions f (suc k) x =
    ones_of_functions f k x
    + (if nat_le (function_element f k) 75 then function_of k x else 0)

-- whether the ones of a frame up to element 75 are odd in number (1) or even (0). The time and the
-- year are before it, and straight binary seconds after it
abbrev pub parity_of : FormatView → Shown → ℕ
parity_of f x = (ones_of_time x.fields + ones_of_functions f (control_count_of f) x) % 2

-- how many frames have this parity
abbrev pub parities : FormatView → ℕ → List Shown → ℕ
parities f p [] = 0
parities f p (x ∷ frames) = (if parity_of f x == p then 1 else 0) + parities f p frames

-- the frames have this parity: at least eight, and five more for each that has it not
abbrev pub have_parity : FormatView → ℕ → List Shown → Bool
have_parity f p frames = nat_le (8 + 5 * parities f (1 - p) frames) (parities f p frames)

-- how many of the first k control functions differ in two frames
abbrev pub changes : ℕ → Shown → Shown → ℕ
changes zero o n = 0
changes (suc k) o n = changes k o n + (if function_of k o == function_of k n then 0 else 1)

-- one control function changed alone, and by that the frame has the parity that other frames have
abbrev pub is_parity_mended : FormatView → List Shown → Shown → Shown → Bool
is_parity_mended f others o n =
    (changes (control_count_of f) o n == 1) && not (parity_of f o == parity_of f n)
    && have_parity f (parity_of f n) others
