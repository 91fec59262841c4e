-- What is sure of each bit: the base that all cheap choices say. This project's own.
use Rattle.std.specs.Prelude.{ℕ, ◌≡◌, ◌+◌, ◌-◌, ◌<◌, ◌≤◌, Bool, true, List, length, Option, Some, None}
use Rattle.std.specs.Prelude.{nat_le, slice_get}
use Rattle.irig_dating.specs.{Choices.IsChoice, Choices.cost, Sure.Has}
use Rattle.irig_telling.specs.{Dating.said_at, Dating.prices_of}
use Rattle.irig_telling.specs.declared.dated.Dated.{Dated}

-- one candidate for each bit, and what that costs
abbrev pub IsChoiceOf : Dated → List ℕ → Type 0
IsChoiceOf d x = IsChoice (prices_of d) (length d.bits.now) x

abbrev pub cost_of : Dated → List ℕ → ℕ
cost_of d x = cost (prices_of d) x

-- no choice costs less, and one costs just that
pub record IsLeast (d : Dated) (least : ℕ) : Type 0 where
  pub low : (x : List ℕ) → IsChoiceOf d x → least ≤ cost_of d x
  pub cheapest : List ℕ
  pub possible : IsChoiceOf d cheapest
  pub exact : cost_of d cheapest ≡ least

-- all choices that cost less than a bound have one candidate for a bit, that of a base
pub record IsSure (d : Dated) (bound t base : ℕ) : Type 0 where
  pub candidate : ℕ
  pub is : said_at d t candidate ≡ Some base
  pub all : (x : List ℕ) → IsChoiceOf d x → cost_of d x < bound → Has t candidate x

-- the base that is sure, and none if none is
abbrev pub IsTold : Dated → ℕ → ℕ → Option ℕ → Type 0
IsTold d bound t None = (base : ℕ) → IsSure d bound t base → ⊥
IsTold d bound t (Some base) = IsSure d bound t base

-- of each bit, with a margin
pub record AreTold (d : Dated) (margin : ℕ) (told : List (Option ℕ)) : Type 0 where
  pub least : ℕ
  pub is_least : IsLeast d least
  pub all : length told ≡ length d.bits.now
  pub each : (t : ℕ) (base : Option ℕ) → slice_get told t ≡ Some base
      → IsTold d (least + margin) t base

-- the least cost of another candidate, if there is one, exceeds a cost by a margin
abbrev pub is_sure : ℕ → ℕ → Option ℕ → Bool
is_sure margin cost None = true
is_sure margin cost (Some other) = nat_le margin (other - cost)
