-- The script language: how a line is put together, and what it asks for. This project's own, after
-- the lines of ed. `blank` is white space or nothing, and `space` is white space; in brackets is
-- what may be missing, and before a star what occurs any number of times:
--
-- line  := blank | blank comment | blank order
-- order := [range] blank [word (space argument)*] blank
use Rattle.std.specs.Prelude.{◌≡◌, ◌≢◌, ◌⊎◌, ◌==◌, ℕ, Bool, true, not, ◌||◌, List, [], ◌∷◌, ◌++◌}
use Rattle.std.specs.List.{list_all}
use Rattle.irig_lines.specs.declared.command.Command.{Command}
use Rattle.irig_lines.specs.declared.keyword.Keyword.TheVariants.{Missing}
use Rattle.irig_lines.specs.{Commands.Asks, Keywords.keyword_of, Words.is_letter, Words.is_space}
use Rattle.irig_lines.specs.declared.command.Command.TheVariants as command

-- white space, or nothing
abbrev pub IsBlank : List ℕ → Type 0
IsBlank text = list_all is_space text ≡ true

-- a word: one byte at least, and no white space
pub record IsWord (text : List ℕ) : Type 0 where
  pub some : text ≢ []
  pub joined : list_all (λ b. not (is_space b)) text ≡ true

-- arguments, white space before each; after the last there may be white space
abbrev pub AreArguments : List ℕ → List (List ℕ) → Type 0
AreArguments text [] = IsBlank text
AreArguments text (word ∷ words) =
    (space : List ℕ) × (rest : List ℕ) × (text ≡ space ++ (word ++ rest))
    × IsBlank space × (space ≢ []) × IsWord word × AreArguments rest words

-- a word and its arguments, or no word
abbrev pub AreWords : List ℕ → List (List ℕ) → Type 0
AreWords text [] = IsBlank text
AreWords text (word ∷ arguments) =
    (rest : List ℕ) × (text ≡ word ++ rest) × IsWord word × AreArguments rest arguments

-- an order: a range, white space, and words
pub record IsOrder (text range : List ℕ) (words : List (List ℕ)) : Type 0 where
  pub blank : List ℕ
  pub rest : List ℕ
  pub whole : text ≡ range ++ (blank ++ rest)
  pub between : IsBlank blank
  pub behind : AreWords rest words

-- after a range is nothing, white space, or the first letter of a word
abbrev pub follows_range : List ℕ → Bool
follows_range [] = true
follows_range (b ∷ bs) = is_space b || is_letter b

-- what a range asks for with a word and its arguments, or with no word
abbrev pub AsksIn : List ℕ → List (List ℕ) → Command → Type 0
AsksIn range [] asked = Asks Missing range [] asked
AsksIn range (word ∷ arguments) asked = Asks (keyword_of word) range arguments asked

-- an order asks for what its range and its words do
abbrev pub Orders : Command → List ℕ → Type 0
Orders asked text = (range : List ℕ) × (words : List (List ℕ))
    × IsOrder text range words × AsksIn range words asked

-- nothing, or a comment
abbrev pub is_nothing : List ℕ → Bool
is_nothing [] = true
is_nothing (b ∷ bs) = b == 35

-- nothing and a comment ask for nothing, and an order for what it does
abbrev pub Does : Command → List ℕ → Type 0
Does asked text = ((is_nothing text ≡ true) × (asked ≡ command.Nothing)) ⊎ Orders asked text

-- a line asks for what is after the white space at its front
abbrev pub Means : Command → List ℕ → Type 0
Means asked line = (blank : List ℕ) × (text : List ℕ) × (line ≡ blank ++ text)
    × IsBlank blank × Does asked text
