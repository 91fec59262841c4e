-- The unit of time that the name of a column has. This project's own; the tools read it so, too.
use Rattle.std.specs.Prelude.{◌==◌, ◌+◌, ◌&&◌, ◌||◌, ℕ, zero, suc, Bool, false, not, List, length}
use Rattle.std.specs.Prelude.{Option, Some, None, is_none, unwrap_or, if◌then◌else◌}
use Rattle.std.specs.List.{list_any}
use Rattle.irig_stamps.specs.declared.cutting.Until.TheVariants.{Alphanumeric, NonAlphanumeric}
use Rattle.irig_stamps.specs.declared.cutting.Until.TheVariants.{Closing, Letter, NonBlank}
use Rattle.irig_stamps.specs.declared.cutting.Until.TheVariants.{NonDigit, Opening}
use Rattle.irig_stamps.specs.{Columns.after_last, Columns.before, Columns.column_of}
use Rattle.irig_stamps.specs.{Columns.onward, Columns.up_to, UnitNames.unit_places}
use Rattle.irig_stamps.specs.{UnitNames.with_zeros, UnitNames.zeros_of}
use Rattle.irig_stamps.specs.declared.settings.Settings.{Settings}

-- the last word of a text, which has letters and digits alone, and what is before it
abbrev pub last_word : List ℕ → List ℕ
last_word text = after_last NonAlphanumeric (up_to Alphanumeric text)

abbrev pub before_word : List ℕ → List ℕ
before_word text = up_to NonAlphanumeric (up_to Alphanumeric text)

-- the zeros of the number in a word; without one, of the word before it, if that is such a number
abbrev pub word_zeros : List ℕ → List ℕ → Option ℕ
word_zeros previous number =
    if length number == 0 then Some (unwrap_or (zeros_of previous) 0) else zeros_of number

-- 10^n femtoseconds are the unit that a word has, after another word
abbrev pub word_unit : List ℕ → List ℕ → Option ℕ
word_unit previous word =
    with_zeros (word_zeros previous (before NonDigit word)) (unit_places (onward NonDigit word))

-- the last unit of a text, among its last n words
abbrev pub or_else : Option ℕ → Option ℕ → Option ℕ
or_else None other = other
or_else (Some unit) other = Some unit

abbrev pub unit_among : ℕ → List ℕ → Option ℕ
unit_among zero text = None
unit_among (suc n) text = or_else (word_unit (last_word (before_word text)) (last_word text))
    (unit_among n (before_word text))

-- of a name, which has no more words than bytes
abbrev pub header_unit : List ℕ → Option ℕ
header_unit name = unit_among (length name) name

-- whether brackets are the end of a name, with no word after them, and what is in them
abbrev pub is_bracketed : List ℕ → Bool
is_bracketed name = let left = onward Closing (after_last Opening name) in
    not (length (up_to Opening name) == 0)
    && (not (length left == 0) && length (up_to Alphanumeric left) == 0)

abbrev pub in_brackets : List ℕ → List ℕ
in_brackets name = onward NonBlank (before Closing (after_last Opening name))

-- a text is a number and a word, and no unit: as 25 ns and 10 MHz
abbrev pub is_other_tick : List ℕ → Bool
is_other_tick text = let left = onward NonDigit text in
    let number = before NonDigit text in
    not (length number == 0) && (not (length (up_to Letter left) == 0)
    && is_none (with_zeros (zeros_of number) (unit_places (up_to NonBlank (onward NonBlank left)))))

-- a unit is another one than 10^places picoseconds
abbrev pub differs : ℕ → Option ℕ → Bool
differs places None = false
differs places (Some unit) = not (places + 3 == unit)

-- a name has another unit: its last one, or what is in its brackets
abbrev pub is_other_unit : ℕ → List ℕ → Bool
is_other_unit places name = (is_bracketed name && is_other_tick (in_brackets name))
    || differs places (header_unit name)

-- what parts the names of a header: tabs if white space parts the columns and it has some, since a
-- name can have spaces
abbrev pub names_comma : Option ℕ → List ℕ → Option ℕ
names_comma comma line = if is_none comma && list_any (λ b. b == 9) line then Some 9 else comma

-- the header names another unit for the column of the recorder's time
abbrev pub names_other_unit : Settings → List ℕ → Bool
names_other_unit s line =
    is_other_unit s.places (column_of (names_comma s.comma line) s.column line)
