-- How a text is cut at the first byte of some kind, and a line into its words. This project's own.
use Rattle.std.specs.Prelude.{◌==◌, ℕ, Bool, false, not, ◌&&◌, ◌||◌, nat_le, List, [], ◌∷◌}
use Rattle.std.specs.Prelude.{if◌then◌else◌}
use Rattle.std.specs.List.{onto_first}
use Rattle.irig_lines.specs.declared.cutting.Until.TheVariants.{Blank, Text, Sign, Comma}
use Rattle.irig_lines.specs.{Numbers.is_sign, declared.cutting.Until.Until}

-- the white space of a line: space, tab and carriage return
abbrev pub is_space : ℕ → Bool
is_space b = (b == 32) || ((b == 9) || (b == 13))

-- the byte is one of a to z
abbrev pub is_letter : ℕ → Bool
is_letter b = nat_le 97 b && nat_le b 122

-- a text is cut before such a byte
abbrev pub is_at : Until → ℕ → Bool
is_at Blank b = is_space b
is_at Text b = not (is_space b)
is_at Sign b = is_sign b
is_at Comma b = b == 44

-- what is before the first such byte
abbrev pub before : Until → List ℕ → List ℕ
before until [] = []
before until (b ∷ bs) = if is_at until b then [] else b ∷ before until bs

-- what is from the first such byte on
abbrev pub onward : Until → List ℕ → List ℕ
onward until [] = []
onward until (b ∷ bs) = if is_at until b then b ∷ bs else onward until bs

-- the text begins with a word
abbrev pub begins_word : List ℕ → Bool
begins_word [] = false
begins_word (b ∷ bs) = not (is_space b)

-- the words of a text: the longest runs of bytes that are no white space
abbrev pub words_of : List ℕ → List (List ℕ)
words_of [] = []
words_of (b ∷ bs) =
    if is_space b then words_of bs
    else (if begins_word bs then onto_first b (words_of bs) else (b ∷ []) ∷ words_of bs)

-- a word before others; no words at all if it has no byte
abbrev pub word_and : List ℕ → List (List ℕ) → List (List ℕ)
word_and [] words = []
word_and (b ∷ bs) words = (b ∷ bs) ∷ words
