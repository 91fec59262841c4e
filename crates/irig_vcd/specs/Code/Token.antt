-- What a token shows of a word.
use Rattle.irig_vcd.specs.Words.{Word, WordKind, dollar, hash, scalar, vector, real, text, other}
use Rattle.irig_vcd.specs.{declared.token.Kind.Kind, declared.token.Token.Token}
use Rattle.irig_vcd.specs.declared.token.Kind.TheVariants as kind

-- what a token is
abbrev pub kind_view : Kind → WordKind
kind_view kind.Dollar = dollar
kind_view kind.Hash = hash
kind_view kind.Scalar = scalar
kind_view kind.Vector = vector
kind_view kind.Real = real
kind_view kind.Text = text
kind_view kind.Other = other

-- a token without where it lies in memory
abbrev pub word_of : Token → Word
word_of t = record { kind = kind_view t.kind; bytes = t.slice.now; offset = t.offset }
