-- Bases that were found by what bits look like: this project's own.
use Rattle.std.specs.Prelude.{◌≡◌, ◌==◌, ◌<◌, ◌≤◌, ◌&&◌, ◌||◌, ◌⊎◌, nat_lt, Bool, List, Some, IfSome}
use Rattle.irig_codes.specs.Format.{FormatView}
use Rattle.irig_candidates.specs.declared.bit.Bit.{Bit}
use Rattle.irig_candidates.specs.declared.found.Found.{Found}
use Rattle.irig_candidates.specs.declared.pair.Pair.{Pair}
use Rattle.irig_candidates.specs.{Bits.cost_of, Times.year_of}

-- it costs less than another one, or as much and is earlier
abbrev pub is_before : Found → Found → Bool
is_before a b = nat_lt a.cost b.cost || ((a.cost == b.cost) && nat_lt a.base b.base)

-- a base of the year, with just what it costs
pub record IsFound (f : FormatView) (bits : List Bit) (x : Found) : Type 0 where
  pub exact : cost_of f x.base bits ≡ x.cost
  pub of_year : x.base < year_of f.kind

-- two that are not the same, the cheaper one first; or one alone
pub record IsPair (p : Pair) : Type 0 where
  pub unlike : IfSome p.second (λ x. x.base ≡ p.first.base → ⊥)
  pub sorted : IfSome p.second (λ x. p.first.cost ≤ x.cost)

-- both are found so
pub record AreFound (f : FormatView) (bits : List Bit) (p : Pair) : Type 0 where
  pub pair : IsPair p
  pub first : IsFound f bits p.first
  pub second : IfSome p.second (IsFound f bits)

-- each of a pair is one of another pair, or a new one
pub record IsFrom (old : Pair) (x : Found) (p : Pair) : Type 0 where
  pub first : (p.first ≡ x) ⊎ (p.first ≡ old.first)
  pub second : IfSome p.second (λ y. (y ≡ x) ⊎ ((y ≡ old.first) ⊎ (old.second ≡ Some y)))
