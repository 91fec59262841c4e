-- How much of the code passes in a hole, between two pulses whose names are known and none between
-- them, and when that is so. This project's own.
use Rattle.std.specs.Prelude.{◌≡◌, ℕ, ◌+◌, ◌-◌, ◌*◌, ◌/◌, ◌<◌, ◌≤◌, min, max}
use Rattle.irig_law.specs.declared.clock.Clock.{Clock}

-- How fast a recorder's clock can go: while n microseconds are recorded, at least `least` * n units
-- of the code pass, and at most `most` * n. A unit is as small as one likes.
pub record Rate : Type 0 where
  pub least : ℕ
  pub most : ℕ

-- A unit is a trillionth of an interval, so that a rate in whole units a microsecond is as exact as
-- a clock is.
abbrev pub units_of : ℕ → ℕ
units_of n = n * 1000000000000

-- The 99 intervals of a frame last `span` microseconds, and each can be off by `slack`
-- ninety-ninths of one: this is how many units pass in a microsecond, at least and at most.
abbrev pub rate_of : Clock → Rate
rate_of c = record {
  least = units_of 99 / (c.span + c.slack);
  most = units_of 99 / (c.span - c.slack) + 1;
}

-- the earliest and the latest number of units after the first pulse, `x` microseconds after it, in
-- a hole of `long` microseconds and `units` units: by the pulse before the hole, or by the one
-- after it
abbrev pub earliest : Rate → ℕ → ℕ → ℕ → ℕ
earliest r long units x = min (r.least * x) (units - r.most * (long - x))

abbrev pub latest : Rate → ℕ → ℕ → ℕ → ℕ
latest r long units x = max (r.most * x) (units - r.least * (long - x))

-- The code that passed up to each microsecond of a recording, from one to another at the rate.
abbrev pub RunsAt : Rate → ℕ → ℕ → (ℕ → ℕ) → Type 0
RunsAt r from to passed = (x y : ℕ) → from ≤ x → x ≤ y → y ≤ to
    → (passed x + r.least * (y - x) ≤ passed y) × (passed y ≤ passed x + r.most * (y - x))

-- What happened in a hole: the clock ran at the rate, but for one event at most, at a microsecond.
pub record Hole (r : Rate) (long units : ℕ) (passed : ℕ → ℕ) : Type 0 where
  pub event : ℕ
  pub begins : passed 0 ≡ 0
  pub ends : passed long ≡ units
  pub before : (y : ℕ) → y < event → RunsAt r 0 y passed
  pub after : RunsAt r event long passed

-- the code that passed is between the earliest and the latest
pub record IsBounded (r : Rate) (long units : ℕ) (passed : ℕ → ℕ) (x : ℕ) : Type 0 where
  pub earliest : earliest r long units x ≤ passed x
  pub latest : passed x ≤ latest r long units x

abbrev pub HolesAreBounded : Type 0
HolesAreBounded = (r : Rate) (long units : ℕ) (passed : ℕ → ℕ) → Hole r long units passed
    → (x : ℕ) → x ≤ long → IsBounded r long units passed x
