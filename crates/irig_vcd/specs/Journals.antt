-- The journals of a dump: the comments after its declarations whose first word is irig-journal-1.
-- Comments are IEEE 1364-2005, clause 18; that these are journals is this project's own.
use Rattle.std.specs.Prelude.{◌-◌, ℕ, Bool, List, Option, Some, None, codes, take, drop}
use Rattle.std.specs.Str.{bytes_eq}
use Rattle.irig_vcd.specs.Words.{Word}

-- a comment: its first word, which is its $end if it has no other, and the place of its $end
pub record Comment : Type 0 where
  pub first : Word
  pub end : ℕ

-- a comment of its two parts
abbrev pub comment : Word → ℕ → Comment
comment first end = record { first = first; end = end }

-- the first word of a comment, by the one so far and the next one
abbrev pub first_or : Option Word → Word → Word
first_or None w = w
first_or (Some first) w = first

-- a comment is a journal by its first word
abbrev pub is_journal : Comment → Bool
is_journal c = bytes_eq c.first.bytes (codes "irig-journal-1")

-- the bytes from the first word of a comment up to its $end
abbrev pub text_of : List ℕ → Comment → List ℕ
text_of bytes c = take (c.end - c.first.offset) (drop c.first.offset bytes)
