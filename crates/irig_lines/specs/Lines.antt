-- The lines of a script, and which of them are obeyed. This project's own.
use Rattle.std.specs.Prelude.{◌==◌, ℕ, Bool, true, false, not, ◌&&◌, List, [], ◌∷◌, length, nat_lt}
use Rattle.std.specs.Prelude.{if◌then◌else◌}
use Rattle.std.specs.List.{onto_first}
use Rattle.irig_lines.specs.declared.keyword.Keyword.TheVariants.{Quit}
use Rattle.irig_lines.specs.{Words.words_of, Keywords.keyword_of, declared.keyword.Keyword.Keyword}

-- the lines of a text: a newline ends each, and a last one without it counts
abbrev pub lines_of : List ℕ → List (List ℕ)
lines_of [] = []
lines_of (b ∷ bs) = if b == 10 then [] ∷ lines_of bs else onto_first b (lines_of bs)

-- the word is `quit`
abbrev pub is_quit_word : Keyword → Bool
is_quit_word Quit = true
is_quit_word _ = false

-- the words are the word `quit` alone
abbrev pub are_quit : List (List ℕ) → Bool
are_quit (word ∷ []) = is_quit_word (keyword_of word)
are_quit _ = false

-- the line ends the script: it is at most 1,000 bytes long, and its words are `quit` alone
abbrev pub is_quit : List ℕ → Bool
is_quit line = not (nat_lt 1000 (length line)) && are_quit (words_of line)

-- the lines before the first that ends the script
abbrev pub until_quit : List (List ℕ) → List (List ℕ)
until_quit [] = []
until_quit (line ∷ lines) = if is_quit line then [] else line ∷ until_quit lines

-- the lines of a script that are obeyed
abbrev pub script_lines : List ℕ → List (List ℕ)
script_lines input = until_quit (lines_of input)
