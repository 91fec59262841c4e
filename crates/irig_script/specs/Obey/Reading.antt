-- How far a run reads its script. This project's own.
use Rattle.std.specs.Prelude.{◌≡◌, ◌≤◌, ◌+◌, ◌^◌, ℕ, List, ◌++◌, Option, length}
use Rattle.std.specs.{List.AllByRecursion, Io.KnownBytes.Consumes}
use Rattle.irig_script.specs.Obey.Run.{IsObeyed, IsPlain, unlines}

-- the bytes have no whole line that ends the script
pub record HasNoEnd (bytes : List ℕ) : Type 0 where
  pub lines : List (List ℕ)
  pub rest : List ℕ
  pub each : AllByRecursion IsObeyed lines
  pub begun : IsPlain rest
  pub cut : bytes ≡ unlines lines ++ rest

-- at most 2^44 bytes were read, and those before the last 4,096 do not end the script
pub record ReadsTo (script left : Option (List ℕ)) : Type 0 where
  pub before : List ℕ
  pub last : List ℕ
  pub read : Consumes script left (before ++ last)
  pub short : length last ≤ 4096
  pub most : length before + length last ≤ 2 ^ 44
  pub goes_on : HasNoEnd before
