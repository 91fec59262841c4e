-- The words that lines begin with. This project's own.
use Rattle.std.specs.Prelude.{List, [], ◌∷◌, ℕ, codes, unwrap_or}
use Rattle.irig_lines.specs.{Tables.found, declared.keyword.Keyword.Keyword}
use Rattle.irig_lines.specs.declared.keyword.Keyword.TheVariants as word

-- the words of the language, each with what it means; nothing is the word that is missing
abbrev pub keywords : List (List ℕ × Keyword)
keywords =
    (codes "", word.Missing) ∷ (codes "list", word.List) ∷ (codes "delete", word.Delete)
    ∷ (codes "shift", word.Shift) ∷ (codes "join", word.Join) ∷ (codes "split", word.Split)
    ∷ (codes "force", word.Force) ∷ (codes "insert", word.Insert) ∷ (codes "invert", word.Invert)
    ∷ (codes "regen", word.Regen) ∷ (codes "format", word.Format) ∷ (codes "mark", word.Mark)
    ∷ (codes "unmark", word.Unmark) ∷ (codes "undo", word.Undo) ∷ (codes "redo", word.Redo)
    ∷ (codes "begin", word.Begin) ∷ (codes "end", word.End) ∷ (codes "abort", word.Abort)
    ∷ (codes "frames", word.Frames) ∷ (codes "marks", word.Marks) ∷ (codes "info", word.Info)
    ∷ (codes "write", word.Write) ∷ (codes "save", word.Save) ∷ (codes "quit", word.Quit) ∷ []

-- the word that a text is
abbrev pub keyword_of : List ℕ → Keyword
keyword_of text = unwrap_or (found text keywords) word.Unknown
