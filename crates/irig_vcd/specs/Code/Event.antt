-- What a token of the changes is.
use Rattle.std.specs.Prelude.{Bool, true, false}
use Rattle.irig_vcd.specs.Words.{WordKind, hash}

-- whether a word sets a time
abbrev pub is_hash : WordKind → Bool
is_hash hash = true
is_hash _ = false
