-- The words of a change in a saved journal: docs/FORMATS.md, "The saved journal". This project's
-- own.
use Rattle.std.specs.Prelude.{◌+◌, ℕ, Bool, true, false, List, [], ◌∷◌, Option, Some, None, length}
use Rattle.std.specs.Prelude.{decimal, codes}
use Rattle.std.specs.Fmt.{signed_decimal}
use Rattle.irig_codes.specs.Words.{kind_word}
use Rattle.irig_saved.specs.declared.single.Single.TheVariants.{Splice, Toggle, Shift, SetFormat}
use Rattle.irig_saved.specs.declared.single.Single.TheVariants.{SetMark}
use Rattle.irig_saved.specs.{Letters.letter_word, Lines.line, declared.single.Single.Single}

-- the letters of the flags that are true, in order, from a letter on
abbrev pub letters_from : ℕ → List Bool → List ℕ
letters_from x [] = []
letters_from x (true ∷ ms) = x ∷ letters_from (x + 1) ms
letters_from x (false ∷ ms) = letters_from (x + 1) ms

-- letters, or - if there are none
abbrev pub letters_or_dash : List ℕ → List ℕ
letters_or_dash [] = 45 ∷ []
letters_or_dash (x ∷ xs) = x ∷ xs

-- the marks that a shift moves
abbrev pub moved_word : List Bool → List ℕ
moved_word marks = letters_or_dash (letters_from 97 marks)

-- a time, or - if there is none
abbrev pub time_word : Option ℕ → List ℕ
time_word None = 45 ∷ []
time_word (Some t) = decimal t

-- the word that a change begins with
abbrev pub head_of : Single → List ℕ
head_of (Splice at count put) = codes "splice"
head_of (Toggle a b) = codes "toggle"
head_of (Shift i j by marks) = codes "shift"
head_of (SetFormat kind expression) = codes "setformat"
head_of (SetMark letter time) = codes "setmark"

-- the words after it
abbrev pub words_of : Single → List (List ℕ)
words_of (Splice at count put) = decimal at ∷ decimal count ∷ decimal (length put) ∷ []
words_of (Toggle a b) = decimal a ∷ decimal b ∷ []
words_of (Shift i j by marks) =
    decimal i ∷ decimal j ∷ signed_decimal by ∷ moved_word marks ∷ []
words_of (SetFormat kind expression) = kind_word kind ∷ decimal expression ∷ []
words_of (SetMark letter time) = letter_word letter ∷ time_word time ∷ []

-- the first line of a change, which is all of it but for a splice
abbrev pub single_line : Single → List ℕ
single_line x = line (head_of x) (words_of x)
