-- The table: what the bits after one cost at least, for each of its candidates. This project's
-- own.
use Rattle.std.specs.Prelude.{ℕ, ◌≡◌, ◌+◌, ◌-◌, ◌*◌, ◌^◌, ◌≤◌, List, length, Option, Some}
use Rattle.std.specs.Prelude.{slice_get, slice_index_or}
use Rattle.std.specs.Global.{Vec}
use Rattle.irig_dating.specs.Choices.{Prices, AreChosen, cost_from, step}
use Rattle.irig_dating.specs.declared.ways.Way.{Way}

-- a candidate for each of the bits from one on
abbrev pub AreRest : Prices → ℕ → ℕ → List ℕ → Type 0
AreRest p bits t cs = (t + length cs ≡ bits) × AreChosen p t cs

-- what the bits from one on cost at least, after a candidate of the bit before
pub record IsLeast (p : Prices) (bits t : ℕ) (before : Option ℕ) (least : ℕ) : Type 0 where
  pub low : (cs : List ℕ) → AreRest p bits t cs → least ≤ cost_from p t before cs
  pub rest : List ℕ
  pub possible : AreRest p bits t rest
  pub exact : cost_from p t before rest ≡ least
  pub small : least ≤ (bits - t) * 2 ^ 33

-- the row of a bit: that for each of its candidates
pub record IsRow (p : Prices) (bits t : ℕ) (row : List ℕ) : Type 0 where
  pub full : length row ≡ p.last t + 1
  pub each : (c : ℕ) → c ≤ p.last t → IsLeast p bits (t + 1) (Some c) (slice_index_or row c 0)

-- rows of bits, the last bit first
abbrev pub AreRows : Prices → ℕ → List (Vec ℕ) → Type 0
AreRows p bits rows =
    (i : ℕ) (row : Vec ℕ) → slice_get rows i ≡ Some row → IsRow p bits (bits - 1 - i) row.items

-- a candidate of a bit with which the rest costs least
pub record IsWay (p : Prices) (bits t : ℕ) (before : Option ℕ) (row : List ℕ) (w : Way)
    : Type 0 where
  pub least : IsLeast p bits t before w.cost
  pub there : w.to ≤ p.last t
  pub exact : w.cost ≡ step p t before w.to + slice_index_or row w.to 0
