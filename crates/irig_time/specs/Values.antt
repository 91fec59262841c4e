-- The values of the command line. This project's own.
use Rattle.std.specs.Prelude.{◌==◌, ◌&&◌, ◌||◌, ◌^◌, ℕ, Bool, not, nat_le, List, [], ◌∷◌, Option}
use Rattle.std.specs.Prelude.{Some, None, codes, if◌then◌else◌}
use Rattle.std.specs.Str.{bytes_eq}
use Rattle.irig_stamps.specs.Numbers.{number_in, whole_in}
use Rattle.irig_stamps.specs.declared.settings.Form.TheVariants.{Ordinal, Calendar, Seconds}
use Rattle.irig_stamps.specs.{Columns.is_digit, declared.picos.Picos.Picos, declared.settings.Form.Form}

-- a number, if it is one from the first to the last
abbrev pub within : ℕ → ℕ → Option ℕ → Option ℕ
within first last None = None
within first last (Some v) = if nat_le first v && nat_le v last then Some v else None

-- a whole number from the first to the last
abbrev pub whole_between : ℕ → ℕ → List ℕ → Option ℕ
whole_between first last text = within first last (whole_in text)

-- a letter of ASCII
abbrev pub is_letter : ℕ → Bool
is_letter b = (nat_le 65 b && nat_le b 90) || (nat_le 97 b && nat_le b 122)

-- a byte that a number, a time, a word or a name can have: a letter, a digit, a point, a sign, a
-- colon or a quote
abbrev pub is_of_text : ℕ → Bool
is_of_text b = is_letter b
    || (is_digit b || ((b == 46) || ((b == 43) || ((b == 45) || ((b == 58) || (b == 34))))))

-- a byte of ASCII that can part columns: none of those, and no end of a line
abbrev pub is_parting : ℕ → Bool
is_parting b = nat_le b 127 && (not (is_of_text b) && (not (b == 10) && not (b == 13)))

-- what parts columns, if it is given
abbrev pub comma_named : List ℕ → Option ℕ
comma_named [] = None
comma_named (b ∷ []) = if is_parting b then Some b else None
comma_named (b ∷ c ∷ bs) = None

-- a time, if it is at most 2^119 picoseconds from zero
abbrev pub near : Option Picos → Option Picos
near None = None
near (Some p) = if nat_le p.size (2 ^ 119) then Some p else None

-- a number in a unit, in picoseconds
abbrev pub offset_named : ℕ → List ℕ → Option Picos
offset_named places text = near (number_in places text)

-- the form with this name
abbrev pub form_named : List ℕ → Option Form
form_named text =
    if bytes_eq text (codes "ordinal") then Some Ordinal
    else (if bytes_eq text (codes "calendar") then Some Calendar
    else (if bytes_eq text (codes "seconds") then Some Seconds else None))
