-- What all cheap choices say of a bit. This project's own.
use Rattle.std.specs.Prelude.{ℕ, ◌≡◌, ◌-◌, ◌<◌, ◌≤◌, List, length, min, Option, Some, None}
use Rattle.std.specs.Prelude.{slice_get}
use Rattle.std.specs.Global.{Vec}
use Rattle.irig_dating.specs.Choices.{Prices, IsChoice, cost}
use Rattle.irig_dating.specs.Rows.{AreRows}

-- a choice has a candidate for a bit
abbrev pub Has : ℕ → ℕ → List ℕ → Type 0
Has t c cs = slice_get cs t ≡ Some c

-- some choice costs that, and has the candidate
pub record IsWith (p : Prices) (bits t c total : ℕ) : Type 0 where
  pub choice : List ℕ
  pub possible : IsChoice p bits choice
  pub has : Has t c choice
  pub exact : cost p choice ≡ total

-- some choice costs that, and has another one
pub record IsOther (p : Prices) (bits t c total : ℕ) : Type 0 where
  pub other : ℕ
  pub unlike : other ≡ c → ⊥
  pub choice : IsWith p bits t other total

-- what the cheapest choice costs that has another one, of the first candidates
pub record IsLeastOther (p : Prices) (bits t c next least : ℕ) : Type 0 where
  pub low : (o : ℕ) (cs : List ℕ) → o < next → (o ≡ c → ⊥) → IsChoice p bits cs → Has t o cs
      → least ≤ cost p cs
  pub origin : IsOther p bits t c least

-- the same; none if these have no other one
abbrev pub AreOthers : Prices → ℕ → ℕ → ℕ → ℕ → Option ℕ → Type 0
AreOthers p bits t c next None = (o : ℕ) → o < next → o ≡ c
AreOthers p bits t c next (Some least) = IsLeastOther p bits t c next least

abbrev pub lesser_of : Option ℕ → ℕ → Option ℕ
lesser_of None x = Some x
lesser_of (Some first) x = Some (min first x)

-- bits that are counted from the last one
abbrev pub turned : ℕ → Prices → Prices
turned bits p = record {
  last = λ t. p.last (bits - 1 - t);
  pay = λ t c. p.pay (bits - 1 - t) c;
  join = λ t c d. p.join (bits - t) d c;
}

-- both tables: what comes after each candidate, and what comes before it
pub record AreTables (p : Prices) (bits : ℕ) (before after : List (Vec ℕ)) : Type 0 where
  pub before_all : length before ≡ bits
  pub before_rows : AreRows (turned bits p) bits before
  pub after_all : length after ≡ bits
  pub after_rows : AreRows p bits after
