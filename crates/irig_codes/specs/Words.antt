-- What people call kinds of time code and classes of pulses. The letters are those of IRIG Standard
-- 200-04; the words are this project's own.
use Rattle.std.specs.Prelude.{ℕ, List, [], ◌∷◌, codes, find, Option, Some, None}
use Rattle.std.specs.Str.{bytes_eq}
use Rattle.irig_codes.specs.declared.format.Kind.TheVariants.{A, B, E, G}
use Rattle.irig_codes.specs.declared.width.Element.TheVariants.{Zero, One, Position}
use Rattle.irig_codes.specs.{declared.format.Kind.Kind, declared.width.Element.Element}

-- the letter of a kind of time code
abbrev pub kind_word : Kind → List ℕ
kind_word A = codes "A"
kind_word B = codes "B"
kind_word E = codes "E"
kind_word G = codes "G"

-- all kinds, in the order of their letters
abbrev pub kinds : List Kind
kinds = A ∷ B ∷ E ∷ G ∷ []

-- the kind that a letter names
abbrev pub kind_named : List ℕ → Option Kind
kind_named word = find (λ k. bytes_eq word (kind_word k)) kinds

-- the word of an element
abbrev pub element_word : Element → List ℕ
element_word Zero = codes "zero"
element_word One = codes "one"
element_word Position = codes "position"

-- the word of a pulse's element, or that its width is bad
abbrev pub class_word : Option Element → List ℕ
class_word None = codes "bad"
class_word (Some e) = element_word e

-- the element that a word names
abbrev pub element_named : List ℕ → Option Element
element_named word = find (λ e. bytes_eq word (element_word e)) (Zero ∷ One ∷ Position ∷ [])
