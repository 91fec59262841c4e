-- The cheapest choice as it is read from the table.
use Rattle.std.proofs.Common.{◌≡◌, ◌+◌, ◌++◌, ℕ, List, [], ◌∷◌, length, get_or, length-append, Option, Some, None, arith, subst, refl}
use Rattle.std.proofs.lemmas.List.{append_assoc, append-nil}
use Rattle.irig_dating.specs.declared.ways.Way.{Way}
use Rattle.irig_dating.specs.Choices.{Prices, AreChosen, IsChoice, cost, cost_from, step}
use Rattle.irig_dating.specs.Rows.{IsLeast, IsRow, IsWay}
use Rattle.irig_dating.proofs.LeastWays.{none_left}

-- candidates so far, to which the cheapest rest makes the least of all costs
pub record IsRead (p : Prices) (bits t : ℕ) (before : Option ℕ) (cs : List ℕ) : Type 0 where
  pub count : length cs ≡ t
  pub chosen : (ds : List ℕ) → AreChosen p t ds → AreChosen p 0 (cs ++ ds)
  pub spent : ℕ
  pub costs : (ds : List ℕ) → cost p (cs ++ ds) ≡ spent + cost_from p t before ds
  pub left : ℕ
  pub least : IsLeast p bits t before left
  pub all : IsLeast p bits 0 None (spent + left)

-- there is one least cost
pub same_least : (p : Prices) (bits t : ℕ) (before : Option ℕ) (x y : ℕ) → IsLeast p bits t before x → IsLeast p bits t before y → x ≡ y
same_least p bits t before x y one other =
    omega (arith, one.low other.rest other.possible, other.low one.rest one.possible, one.exact, other.exact)

pub nothing_read : (p : Prices) (bits least : ℕ) → IsLeast p bits 0 None least → IsRead p bits 0 None []
nothing_read p bits least is = record {
  count = refl;
  chosen = λ ds h. h;
  spent = 0;
  costs = λ ds. omega arith;
  left = least;
  least = is;
  all = subst (λ n. IsLeast p bits 0 None n) (let e : least ≡ 0 + least = omega arith in e) is;
}

-- one more candidate
pub read_more : (p : Prices) (bits t : ℕ) (before : Option ℕ) (cs row : List ℕ) (w : Way) → IsRow p bits t row
    → IsWay p bits t before row w → IsRead p bits t before cs → IsRead p bits (t + 1) (Some w.to) (cs ++ w.to ∷ [])
read_more p bits t before cs row w is way so_far =
    let rest = is.each w.to way.there in
    let same = same_least p bits t before so_far.left w.cost so_far.least way.least in record {
      count = let l = length-append cs (w.to ∷ []) in omega (arith, so_far.count, l);
      chosen = λ ds h. rw (append_assoc cs (w.to ∷ []) ds) (so_far.chosen (w.to ∷ ds) (way.there, h));
      spent = so_far.spent + step p t before w.to;
      costs = λ ds. rw (append_assoc cs (w.to ∷ []) ds) (let e = so_far.costs (w.to ∷ ds) in omega (arith, e));
      left = get_or row w.to 0;
      least = rest;
      all = subst (λ n. IsLeast p bits 0 None n) (omega (arith, same, way.exact)) so_far.all;
    }

-- all candidates
pub all_read : (p : Prices) (bits t : ℕ) (before : Option ℕ) (cs : List ℕ) (least : ℕ) → t ≡ bits → IsRead p bits t before cs
    → IsLeast p bits 0 None least → IsChoice p bits cs × (cost p cs ≡ least)
all_read p bits t before cs least end read is =
    let none = same_least p bits t before read.left 0 read.least (none_left p bits t before end) in
    let same = same_least p bits 0 None (read.spent + read.left) least read.all is in
    let costs = read.costs [] in let e = rw (append-nil cs) at costs in
    let chosen = read.chosen [] tt in ((let count = read.count in omega arith, rw (append-nil cs) at chosen), omega (arith, e, none, same))
