-- A time in two parts: the digits of its number of units above one microsecond, and those below.
use Rattle.std.specs.Prelude.{◌≡◌, ◌+◌, ◌-◌, ◌*◌, ◌/◌, ◌^◌, ◌==◌, ◌&&◌, ◌||◌, ◌≤◌, ◌<◌, ℕ, Bool}
use Rattle.std.specs.Prelude.{true, List, nat_lt, min}
use Rattle.irig_vcd.specs.{Digits.is_number, Digits.number_from, declared.time.Clock.Clock}

-- the number of units of a clock
unfoldable pub units_of : ℕ → Clock → ℕ
units_of unit c = c.whole * 10 ^ (9 - unit) + c.rest

-- how many microseconds one of the whole part counts
unfoldable pub factor_of : ℕ → ℕ
factor_of unit = 10 ^ (unit - 9)

-- the largest whole part within 2^40 microseconds
unfoldable pub limit_of : ℕ → ℕ
limit_of unit = 1099511627776 / 10 ^ (unit - 9)

-- a time that was read
pub record IsTime (unit : ℕ) (c : Clock) : Type 0 where
  pub whole : c.whole ≤ limit_of unit
  pub rest : c.rest < 10 ^ (9 - unit)

-- a clock shows what digits spell, its whole part capped
pub record Shows (unit : ℕ) (digits : List ℕ) (c : Clock) : Type 0 where
  pub number : is_number digits ≡ true
  pub parts : (whole : ℕ) × (c.whole ≡ min whole 2199023255552) × (number_from 0 digits
      ≡ whole * 10 ^ (9 - unit) + c.rest)
  pub rest : c.rest < 10 ^ (9 - unit)

-- one clock shows an earlier time
abbrev pub precedes : Clock → Clock → Bool
precedes c d = nat_lt c.whole d.whole || (c.whole == d.whole && nat_lt c.rest d.rest)
