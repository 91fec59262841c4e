-- Bounds of bits and of bases. This project's own.
use Rattle.std.specs.Prelude.{ℕ, ◌^◌, ◌<◌, ◌≤◌, length}
use Rattle.std.specs.Global.{Vec}
use Rattle.irig_candidates.specs.declared.bit.Bit.{Bit}
use Rattle.irig_explaining.specs.declared.prices.Prices.{Prices}

-- a bit is that of a rise that there is, and in bounds
pub record Fits (p : Prices) (b : Bit) : Type 0 where
  pub rise : b.rise < length p.pulses.now
  pub frame : b.frame < 2 ^ 49
  pub zero : b.zero ≤ 80
  pub one : b.one ≤ 80

-- a set has at most that many bases
abbrev pub IsShort : Vec ℕ → Type 0
IsShort v = length v.items < 2 ^ 31
