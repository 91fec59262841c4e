-- A table of nodes as it grows.
use Rattle.std.proofs.Common.{◌≡◌, ◌+◌, ◌-◌, ◌*◌, ◌^◌, ◌<◌, ◌≤◌, ◌++◌, ℕ, zero, suc, List, [], ◌∷◌, length, get_or, MatchOption, slice_get, Option, Some, None, sym, subst, inl, inr, arith, refl, length-append}
use Rattle.std.specs.List.{All, Contains}
use Rattle.std.specs.List.Sorted.{IsNonDecreasingBy}
use Rattle.std.proofs.Math.Nat.{mul-le-mul_left}
use Rattle.std.proofs.lemmas.Bool.{cases_lt}
use Rattle.std.proofs.lemmas.List.{get_or_append_left, get_or-append_right}
use Rattle.std.proofs.lemmas.List.Elements.{All-append, All-contains, All-weaker, Contains-append_cases, Contains-append_left, Contains-append_right}
use Rattle.irig_explaining.specs.declared.{rises.Rises.Rises, nodes.Node.Node, ways.Way.Way}
use Rattle.irig_explaining.specs.Explanation.{Price}
use Rattle.irig_explaining.specs.Nodes.{AreNodes, ComesFrom, IsCost, IsKnown, IsLeast, IsLow, IsNode}
use Rattle.irig_explaining.specs.Rows.{AreKept, IsBeaten, IsIn, IsLeastOf, IsMost, IsRow, node_of}
use Rattle.irig_explaining.proofs.LeastWays.{small_cost}

-- what was there stays there
pub stays : (xs ys : List Node) (u : ℕ) (m : Node) → slice_get xs u ≡ Some m → slice_get (xs ++ ys) u ≡ Some m
stays [] ys u m e = absurd (cc)
stays (x ∷ xs) ys zero m e = e
stays (x ∷ xs) ys (suc u) m e = stays xs ys u m e

-- all are of rises from one on
abbrev From : ℕ → List Node → Type 0
From r xs = (m : Node) → Contains xs m → r ≤ m.rise

-- no step leads from them to a claim before, so its ways stay the same
low_still : (price : Price) (rises : Rises) (nodes more : List Node) (r q f low : ℕ) → From r more → q ≤ r
    → IsLow price rises nodes q f low → IsLow price rises (nodes ++ more) q f low
low_still price rises nodes more r q f low from le h = record {
  first = h.first;
  steps = λ m k there w.
      elim (Contains-append_cases nodes more m there) [
        | inl was ↦ h.steps m k was w
        | inr new ↦ (let far = from m new in let later = w.later in absurd (omega arith))
      ];
}

came_still : (price : Price) (rises : Rises) (nodes more : List Node) (q f : ℕ) (w : Way) (from : Option ℕ)
    → MatchOption from (w.cost ≡ rises.skip * q) (λ u. ComesFrom price rises nodes q f w u)
    → MatchOption from (w.cost ≡ rises.skip * q) (λ u. ComesFrom price rises (nodes ++ more) q f w u)
came_still price rises nodes more q f w None h = h
came_still price rises nodes more q f w (Some u) h = record {
  before = h.before;
  at = stays nodes more u h.before h.at;
  within = h.within;
  exact = h.exact;
}

cost_still : (price : Price) (rises : Rises) (nodes more : List Node) (r q f cost : ℕ) → From r more → q ≤ r
    → IsCost price rises nodes q f cost → IsCost price rises (nodes ++ more) q f cost
cost_still price rises nodes more r q f cost from le h = record {
  way = h.way;
  is = record {
    low = low_still price rises nodes more r q f h.way.cost from le h.is.low;
    backed = came_still price rises nodes more q f h.way h.way.from h.is.backed;
  };
  exact = h.exact;
}

-- nodes of a rise before stand for what they did
known_still : (price : Price) (rises : Rises) (nodes more : List Node) (r q f : ℕ) → From r more → q ≤ r
    → IsKnown price rises nodes q f → IsKnown price rises (nodes ++ more) q f
known_still price rises nodes more r q f from le h = record {
  node = h.node;
  there = Contains-append_left nodes more h.node h.there;
  beside = h.beside;
  least = h.least;
  costs = cost_still price rises nodes more r q f h.least from le h.costs;
  cheap = h.cheap;
  steps = h.steps;
}

-- the nodes that are kept are of their rise
row_from : (price : Price) (row : List ℕ) (more : List Node) (r best : ℕ) → AreKept price r row best more → From r more
row_from price row more r best kept = λ m there. let of = All-contains (IsIn r row) more m kept.those there in let e = of.0 in omega arith

-- an element is beaten if it costs more than the best one by the most
pub beaten_by : (price : Price) (r best e : ℕ) (row : List ℕ) (most : ℕ) → IsMost price r best e most → get_or row best 0 ≤ get_or row e 0
    → most ≤ get_or row e 0 - get_or row best 0 → IsBeaten price (node_of r row best) (node_of r row e)
beaten_by price r best e row most is low le = record {
  cheap = low;
  steps = λ q f k. let m = is q f k in omega (arith, m, low, le);
}

-- a claim whose node is left out: the best one of the row stands for it
left_out : (price : Price) (rises : Rises) (nodes : List Node) (row : List ℕ) (more : List Node) (r best e : ℕ)
    → IsRow price rises nodes r row → AreKept price r row best more → best < length row → e < rises.states
    → IsBeaten price (node_of r row best) (node_of r row e) → IsKnown price rises (nodes ++ more) r e
left_out price rises nodes row more r best e is kept lt there beaten = record {
  node = node_of r row best;
  there = Contains-append_right nodes more (node_of r row best) (kept.best_too lt);
  beside = refl;
  least = get_or row e 0;
  costs = cost_still price rises nodes more r r e (get_or row e 0) (row_from price row more r best kept) (omega arith) (is.each e there);
  cheap = beaten.cheap;
  steps = inr beaten.steps;
}

-- one whose node is kept
kept_itself : (price : Price) (rises : Rises) (nodes : List Node) (row : List ℕ) (more : List Node) (r best e : ℕ)
    → IsRow price rises nodes r row → AreKept price r row best more → e < rises.states → Contains more (node_of r row e)
    → IsKnown price rises (nodes ++ more) r e
kept_itself price rises nodes row more r best e is kept lt there = record {
  node = node_of r row e;
  there = Contains-append_right nodes more (node_of r row e) there;
  beside = refl;
  least = get_or row e 0;
  costs = cost_still price rises nodes more r r e (get_or row e 0) (row_from price row more r best kept) (omega arith) (is.each e lt);
  cheap = omega arith;
  steps = inl refl;
}

known_new : (price : Price) (rises : Rises) (nodes : List Node) (row : List ℕ) (more : List Node) (r best e : ℕ)
    → IsRow price rises nodes r row → IsLeastOf row best → AreKept price r row best more → e < rises.states
    → IsKnown price rises (nodes ++ more) r e
known_new price rises nodes row more r best e is least kept lt =
    elim (kept.others e (omega (arith, is.all, lt))) [
      | inl there ↦ kept_itself price rises nodes row more r best e is kept lt there
      | inr beaten ↦ left_out price rises nodes row more r best e is kept (least.there (omega (arith, is.all, lt))) lt beaten
    ]

-- the nodes of later rises come later
sorted_more : (xs ys : List Node) (r : ℕ) → IsNonDecreasingBy (λ (n : Node). n.rise) xs → All (λ (n : Node). n.rise < r) xs
    → All (λ (n : Node). n.rise ≡ r) ys → IsNonDecreasingBy (λ (n : Node). n.rise) (xs ++ ys)
sorted_more xs ys r sorted below at = λ i j d le lt.
    elim (cases_lt j (length xs)) [
      | inl left ↦
          let lti : i < length xs = omega arith in
          rw (get_or_append_left xs ys d i lti, get_or_append_left xs ys d j left) (sorted i j d le left)
      | inr right ↦
          let ltj : j - length xs < length ys = let l = length-append xs ys in omega arith in
          let last = at (j - length xs) d ltj in
          elim (cases_lt i (length xs)) [
            | inl left ↦
                let low = below i d left in
                rw (get_or_append_left xs ys d i left, get_or-append_right xs ys (length xs) j d refl right) (omega (arith, low, last))
            | inr far ↦
                let lti : i - length xs < length ys = let l = length-append xs ys in omega arith in
                let first = at (i - length xs) d lti in
                rw (get_or-append_right xs ys (length xs) i d refl far, get_or-append_right xs ys (length xs) j d refl right) (omega (arith, first, last))
          ]
    ]

-- the table with one more rise
pub nodes_more : (price : Price) (rises : Rises) (nodes : List Node) (row : List ℕ) (more : List Node) (r best : ℕ)
    → AreNodes price rises r nodes → IsRow price rises nodes r row → IsLeastOf row best → AreKept price r row best more
    → AreNodes price rises (r + 1) (nodes ++ more)
nodes_more price rises nodes row more r best are is least kept =
    let new = nodes ++ more in
    let from = row_from price row more r best kept in record {
      known = λ q e lt small.
          elim (cases_lt q r) [
            | inl before ↦ known_still price rises nodes more r q e from (omega arith) (are.known q e before small)
            | inr here ↦ subst (λ x. IsKnown price rises new x e) (let same : r ≡ q = omega arith in same)
                (known_new price rises nodes row more r best e is least kept small)
          ];
      each = All-append (IsNode price rises (r + 1) new) nodes more
          (All-weaker (IsNode price rises r nodes) (IsNode price rises (r + 1) new) (λ n h. let lt = h.rise in record {
            rise = omega arith;
            element = h.element;
            costs = cost_still price rises nodes more r n.rise n.element n.cost from (omega arith) h.costs;
          }) nodes are.each)
          (All-weaker (IsIn r row) (IsNode price rises (r + 1) new) (λ n h.
          let same = h.0 in let lt : n.element < rises.states = omega (arith, h.1, is.all) in record {
            rise = omega arith;
            element = lt;
            costs = subst (λ x. IsCost price rises new x n.element n.cost) (sym h.0)
                (subst (λ x. IsCost price rises new r n.element x) (sym h.2)
                (cost_still price rises nodes more r r n.element (get_or row n.element 0) from (omega arith) (is.each n.element lt)));
          }) more kept.those);
      sorted = sorted_more nodes more r are.sorted
          (All-weaker (IsNode price rises r nodes) (λ n. n.rise < r) (λ n h. h.rise) nodes are.each)
          (All-weaker (IsIn r row) (λ n. n.rise ≡ r) (λ n h. h.0) more kept.those);
    }

-- no cost in a table is too large
pub small_nodes : (price : Price) (rises : Rises) (done : ℕ) (nodes : List Node) → AreNodes price rises done nodes → done ≤ 2 ^ 31
    → rises.skip < 2 ^ 32 → All (λ n. n.cost < 2 ^ 63) nodes
small_nodes price rises done nodes are few fits =
    All-weaker (IsNode price rises done nodes) (λ n. n.cost < 2 ^ 63) (λ n h. let lt = h.rise in
    small_cost rises.skip n.rise n.cost fits (omega arith) (omega (arith, h.costs.is.low.first, h.costs.exact))) nodes are.each

-- nor any least one, if there are only half as many rises
pub small_least : (price : Price) (rises : Rises) (nodes : List Node) (q f : ℕ) (w : Way) → IsLeast price rises nodes q f w → q < rises.count
    → rises.count ≤ 2 ^ 30 → rises.skip < 2 ^ 32 → w.cost < 2 ^ 62
small_least price rises nodes q f w is lt few fits =
    let le : q ≤ 2 ^ 30 = omega arith in
    let less : q < 2 ^ 30 = omega arith in
    omega (arith, is.low.first, mul-le-mul_left rises.skip le)
