-- The numbers of printed lines. This project's own.
use Rattle.std.specs.Prelude.{◌-◌, ℕ, List, ◌++◌, length, decimal, replicate, false}
use Rattle.std.specs.Fmt.{digits}

-- a number in decimal with at least this many digits, by leading zeros
abbrev pub padded : ℕ → ℕ → List ℕ
padded width n = replicate (width - length (decimal n)) 48 ++ decimal n

-- a number in lower-case hexadecimal, without leading zeros
abbrev pub hexadecimal : ℕ → List ℕ
hexadecimal n = digits 16 false n
