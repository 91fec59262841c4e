-- The words of a part of a dump. This project's own.
use Rattle.std.specs.Prelude.{◌+◌, ℕ, List, map}
use Rattle.irig_vcd.specs.Words.{Word, words_of}

-- a word, if that many bytes are before its text
abbrev pub moved_word : ℕ → Word → Word
moved_word base w = record { kind = w.kind; bytes = w.bytes; offset = base + w.offset }

-- the words of a part, if that many bytes are before it
abbrev pub words_at : ℕ → List ℕ → List Word
words_at base part = map (moved_word base) (words_of part)
