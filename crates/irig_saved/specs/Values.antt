-- What is in lines, as tuples of values, and the words that they are. This project's own.
use Rattle.std.specs.Prelude.{◌≡◌, ◌<◌, ◌≤◌, ℕ, ℤ, Bool, List, [], ◌∷◌, Option, length, decimal}
use Rattle.std.specs.Fmt.{signed_decimal}
use Rattle.irig_codes.specs.{Words.kind_word, declared.format.Kind.Kind}
use Rattle.irig_saved.specs.Ranges.{IsNumber, IsDistance, IsTime}
use Rattle.irig_saved.specs.{ChangeWords.moved_word, ChangeWords.time_word, Letters.letter_word}

-- two numbers, as of a pulse or a toggle
abbrev pub AreTwo : ℕ × ℕ → Type 0
AreTwo t = IsNumber t.0 × IsNumber t.1

-- each in decimal
abbrev pub words_of_two : ℕ × ℕ → List (List ℕ)
words_of_two t = decimal t.0 ∷ decimal t.1 ∷ []

-- a format, permitted or not
abbrev pub IsFormat : Kind × ℕ → Type 0
IsFormat f = f.1 ≤ 7

-- the word of its kind, and its expression
abbrev pub words_of_format : Kind × ℕ → List (List ℕ)
words_of_format f = kind_word f.0 ∷ decimal f.1 ∷ []

-- three numbers, as of a splice
abbrev pub AreThree : ℕ × ℕ × ℕ → Type 0
AreThree t = IsNumber t.0 × IsNumber t.1 × IsNumber t.2

-- each in decimal
abbrev pub words_of_three : ℕ × ℕ × ℕ → List (List ℕ)
words_of_three t = decimal t.0 ∷ decimal t.1 ∷ decimal t.2 ∷ []

-- a distance, and for each letter whether its mark moves by it
abbrev pub IsMove : ℤ × List Bool → Type 0
IsMove t = IsDistance t.0 × (length t.1 ≡ 26)

-- the first pulse that moves, the last, and the move
abbrev pub IsShift : ℕ × ℕ × ℤ × List Bool → Type 0
IsShift t = IsNumber t.0 × IsNumber t.1 × IsDistance t.2 × (length t.3 ≡ 26)

-- its four words
abbrev pub words_of_shift : ℕ × ℕ × ℤ × List Bool → List (List ℕ)
words_of_shift t = decimal t.0 ∷ decimal t.1 ∷ signed_decimal t.2 ∷ moved_word t.3 ∷ []

-- a letter and the time of its mark
abbrev pub IsMark : ℕ × Option ℕ → Type 0
IsMark t = t.0 < 26 × IsTime t.1

-- the letter, and the time or -
abbrev pub words_of_mark : ℕ × Option ℕ → List (List ℕ)
words_of_mark t = letter_word t.0 ∷ time_word t.1 ∷ []
