-- How a text is cut at the first byte of some kind, and a line into columns. This project's own.
use Rattle.std.specs.Prelude.{◌==◌, ℕ, zero, suc, Bool, not, ◌&&◌, ◌||◌, ◌-◌, nat_le, nat_lt, List, [], ◌∷◌}
use Rattle.std.specs.Prelude.{Option, Some, None, if◌then◌else◌, take, drop, length}
use Rattle.std.specs.List.{suffix_len}
use Rattle.irig_stamps.specs.declared.cutting.Until.{Until}
use Rattle.irig_stamps.specs.declared.cutting.Until.TheVariants.{Blank, NonBlank, NonDigit, Byte}
use Rattle.irig_stamps.specs.declared.cutting.Until.TheVariants.{Alphanumeric, NonAlphanumeric, NonZero}
use Rattle.irig_stamps.specs.declared.cutting.Until.TheVariants.{Letter, Opening, Closing}

-- the white space of a line: space, tab and carriage return
abbrev pub is_space : ℕ → Bool
is_space b = (b == 32) || ((b == 9) || (b == 13))

-- a decimal digit
abbrev pub is_digit : ℕ → Bool
is_digit b = nat_le 48 b && nat_le b 57

-- a letter; each byte above 127 counts as one, as those of µ
abbrev pub is_letter : ℕ → Bool
is_letter b = nat_lt 127 b || ((nat_le 65 b && nat_le b 90) || (nat_le 97 b && nat_le b 122))

abbrev pub is_alphanumeric : ℕ → Bool
is_alphanumeric b = is_letter b || is_digit b

-- a text is cut before such a byte, or after it
abbrev pub is_at : Until → ℕ → Bool
is_at Blank b = is_space b
is_at NonBlank b = not (is_space b)
is_at NonDigit b = not (is_digit b)
is_at (Byte c) b = b == c
is_at NonZero b = not (b == 48)
is_at Alphanumeric b = is_alphanumeric b
is_at NonAlphanumeric b = not (is_alphanumeric b)
is_at Letter b = is_letter b
is_at Opening b = (b == 40) || (b == 91)
is_at Closing b = (b == 41) || (b == 93)

-- what is before the first such byte
abbrev pub before : Until → List ℕ → List ℕ
before until [] = []
before until (b ∷ bs) = if is_at until b then [] else b ∷ before until bs

-- what is from the first such byte on
abbrev pub onward : Until → List ℕ → List ℕ
onward until [] = []
onward until (b ∷ bs) = if is_at until b then b ∷ bs else onward until bs

-- what is up to the last such byte
abbrev pub up_to : Until → List ℕ → List ℕ
up_to until text = take (length text - suffix_len (λ b. not (is_at until b)) text) text

-- what is after the last such byte
abbrev pub after_last : Until → List ℕ → List ℕ
after_last until text = drop (length text - suffix_len (λ b. not (is_at until b)) text) text

-- all but the first byte
abbrev pub rest_of : List ℕ → List ℕ
rest_of [] = []
rest_of (b ∷ bs) = bs

-- column k of a line, from 0, if white space parts them
abbrev pub word_at : ℕ → List ℕ → List ℕ
word_at zero text = before Blank (onward NonBlank text)
word_at (suc k) text = word_at k (onward Blank (onward NonBlank text))

-- column k, from 0, if a byte parts them
abbrev pub part_at : ℕ → ℕ → List ℕ → List ℕ
part_at c zero text = before (Byte c) text
part_at c (suc k) text = part_at c k (rest_of (onward (Byte c) text))

-- what is after the first column
abbrev pub passed : Option ℕ → List ℕ → List ℕ
passed None text = onward Blank (onward NonBlank text)
passed (Some c) text = rest_of (onward (Byte c) text)

-- column k of a line, from 0; no byte if it is not there
abbrev pub column_of : Option ℕ → ℕ → List ℕ → List ℕ
column_of None k text = word_at k text
column_of (Some c) k text = part_at c k text
