-- The least cost of a step that gives an interval another place, as loops find it.
use Rattle.std.proofs.Common.{◌≡◌, ◌+◌, ◌-◌, ◌<◌, ◌≤◌, ◌⊎◌, ℕ, List, sym, subst, inl, inr, arith}
use Rattle.irig_explaining.specs.declared.{asked.Asked.Asked, claim.Kind.Kind, rises.Rises.Rises, nodes.Node.Node}
use Rattle.irig_explaining.specs.Bounds.{Elsewhere, ElsewhereBetween, IsOver, Steps}
use Rattle.std.specs.List.{Contains}
use Rattle.irig_explaining.specs.{Explanation.Price, Nodes.AreNodes, Nodes.IsCost, Turned.AreTables, Turned.turned, Ways.OtherKind, Ways.OtherWay}
use Rattle.irig_explaining.proofs.ReadBack.{below_cost}

-- no steps have been looked at yet
pub elsewhere_none : (price place : Price) (rises : Rises) (before after : List Node) (a : Asked) (steps : Steps) (bound : ℕ)
    → ((r e q f : ℕ) → IsOver rises a r e q f → steps r e q f → ⊥) → Elsewhere price place rises before after a steps bound
elsewhere_none price place rises before after a steps bound none = record {
  least = λ r e q f k x y step over unlike start end. absurd (none r e q f over step);
}

-- some more
pub elsewhere_more : (price place : Price) (rises : Rises) (before after : List Node) (a : Asked) (old new all : Steps) (last bound : ℕ)
    → Elsewhere price place rises before after a old last → bound ≤ last → Elsewhere price place rises before after a new bound
    → ((r e q f : ℕ) → IsOver rises a r e q f → all r e q f → old r e q f ⊎ new r e q f) → Elsewhere price place rises before after a all bound
elsewhere_more price place rises before after a old new all last bound so_far le more either = record {
  least = λ r e q f k x y step over unlike start end.
      elim (either r e q f over step) [
        | inl was ↦ omega (arith, so_far.least r e q f k x y was over unlike start end, le)
        | inr is ↦ more.least r e q f k x y is over unlike start end
      ];
}

-- none costs less than what is less
pub elsewhere_less : (price place : Price) (rises : Rises) (before after : List Node) (a : Asked) (steps : Steps) (last bound : ℕ)
    → Elsewhere price place rises before after a steps last → bound ≤ last → Elsewhere price place rises before after a steps bound
elsewhere_less price place rises before after a steps last bound so_far le = record {
  least = λ r e q f k x y step over unlike start end. omega (arith, so_far.least r e q f k x y step over unlike start end, le);
}

-- these were all
pub elsewhere_all : (price place : Price) (rises : Rises) (before after : List Node) (a : Asked) (old all : Steps) (bound : ℕ)
    → Elsewhere price place rises before after a old bound
    → ((r e q f : ℕ) → IsOver rises a r e q f → all r e q f → old r e q f) → Elsewhere price place rises before after a all bound
elsewhere_all price place rises before after a old all bound so_far each = record {
  least = λ r e q f k x y step over unlike start end. so_far.least r e q f k x y (each r e q f over step) over unlike start end;
}

-- no claim of a rise costs less than its cheapest node
node_low : (price : Price) (rises : Rises) (nodes : List Node) (r e x low : ℕ) → AreNodes price rises rises.count nodes → r < rises.count
    → e < rises.states → ((n : Node) → Contains nodes n → n.rise ≡ r → low ≤ n.cost) → IsCost price rises nodes r e x → low ≤ x
node_low price rises nodes r e x low are there small least costs =
    let known = are.known r e there small in
    let cheap = below_cost price rises nodes r e known.costs.way.cost x known.costs.is.low costs in
    omega (arith, cheap, known.costs.exact, known.cheap, least known.node known.there known.beside)

-- the least cost of a claim is one
pub same_cost : (price : Price) (rises : Rises) (nodes : List Node) (r e x y : ℕ) → IsCost price rises nodes r e x → IsCost price rises nodes r e y
    → x ≤ y
same_cost price rises nodes r e x y one other =
    omega (arith, below_cost price rises nodes r e one.way.cost y one.is.low other, one.exact)

-- those between two claims: no more is spent than what comes before and after these
between : (price place : Price) (rises : Rises) (before after : List Node) (a : Asked) (r e q f spent low bound : ℕ)
    → ((x y : ℕ) → IsCost price rises before r e x → IsCost (turned price rises.count) rises after (rises.count - 1 - q) f y → spent ≤ x + y)
    → ElsewhereBetween price place a spent r e q f low → bound ≤ low
    → Elsewhere price place rises before after a (λ r2 e2 q2 f2. (r2 ≡ r) × (e2 ≡ e) × (q2 ≡ q) × (f2 ≡ f)) bound
between price place rises before after a r e q f spent low bound paid is le = record {
  least = λ r2 e2 q2 f2 k x y step over unlike start2 end2.
      let er = sym step.0 in let ee = sym step.1 in let eq = sym step.2 in let ef = sym step.3 in
      let here : ElsewhereBetween price place a spent r2 e2 q2 f2 low = subst (λ n. ElsewhereBetween price place a spent n e2 q2 f2 low) er
      (subst (λ n. ElsewhereBetween price place a spent r n q2 f2 low) ee
      (subst (λ n. ElsewhereBetween price place a spent r e n f2 low) eq
      (subst (λ n. ElsewhereBetween price place a spent r e q n low) ef is))) in
      let start = subst (λ n. IsCost price rises before r n x) step.1 (subst (λ n. IsCost price rises before n e2 x) step.0 start2) in
      let end = subst (λ n. IsCost (turned price rises.count) rises after (rises.count - 1 - q) n y) step.3
      (subst (λ n. IsCost (turned price rises.count) rises after (rises.count - 1 - n) f2 y) step.2 end2) in
      omega (arith, here.least k unlike, paid x y start end, le);
}

pub elsewhere_between : (price place : Price) (rises : Rises) (before after : List Node) (a : Asked) (r e q f x y spent bound : ℕ)
    → IsCost price rises before r e x → IsCost (turned price rises.count) rises after (rises.count - 1 - q) f y → spent ≡ x + y
    → ElsewhereBetween price place a spent r e q f bound
    → Elsewhere price place rises before after a (λ r2 e2 q2 f2. (r2 ≡ r) × (e2 ≡ e) × (q2 ≡ q) × (f2 ≡ f)) bound
elsewhere_between price place rises before after a r e q f x y spent bound start end paid is =
    between price place rises before after a r e q f spent bound bound
    (λ x2 y2 start2 end2. let le = same_cost price rises before r e x x2 start start2 in
    let le2 = same_cost (turned price rises.count) rises after (rises.count - 1 - q) f y y2 end end2 in omega (arith, paid, le, le2))
    is (omega arith)

-- none of them is cheaper, if none is with the cheapest node of the first rise
pub elsewhere_low : (price place : Price) (rises : Rises) (before after : List Node) (a : Asked) (r e q f start y low bound : ℕ)
    → AreNodes price rises rises.count before → r < rises.count → e < rises.states
    → ((n : Node) → Contains before n → n.rise ≡ r → start ≤ n.cost)
    → IsCost (turned price rises.count) rises after (rises.count - 1 - q) f y
    → ElsewhereBetween price place a (start + y) r e q f low → bound ≤ low
    → Elsewhere price place rises before after a (λ r2 e2 q2 f2. (r2 ≡ r) × (e2 ≡ e) × (q2 ≡ q) × (f2 ≡ f)) bound
elsewhere_low price place rises before after a r e q f start y low bound are there small least end is le =
    between price place rises before after a r e q f (start + y) low bound
    (λ x y2 start2 end2. let cheap = node_low price rises before r e x start are there small least start2 in
    let le2 = same_cost (turned price rises.count) rises after (rises.count - 1 - q) f y y2 end end2 in omega (arith, cheap, le2))
    is le

-- and one of them
pub other_between : (price place : Price) (rises : Rises) (before after : List Node) (a : Asked) (r e q f x y spent total : ℕ)
    → IsOver rises a r e q f → IsCost price rises before r e x → IsCost (turned price rises.count) rises after (rises.count - 1 - q) f y
    → spent ≡ x + y → OtherKind price place a spent r e q f total → OtherWay price place rises before after a total
other_between price place rises before after a r e q f x y spent total over start end paid other = record {
  r = r;
  e = e;
  q = q;
  f = f;
  kind = other.kind;
  over = over;
  unlike = other.unlike;
  x = x;
  y = y;
  start = start;
  end = end;
  exact = omega (arith, other.exact, paid);
}

-- none of those from a rise, if what comes after costs as much, with the cheapest node of the rise
pub elsewhere_from : (price place : Price) (rises : Rises) (before after : List Node) (a : Asked) (r q f low y bound : ℕ)
    → AreNodes price rises rises.count before → r < rises.count → ((n : Node) → Contains before n → n.rise ≡ r → low ≤ n.cost)
    → IsCost (turned price rises.count) rises after (rises.count - 1 - q) f y → bound ≤ low + y
    → Elsewhere price place rises before after a (λ r2 e2 q2 f2. (r2 ≡ r) × (q2 ≡ q) × (f2 ≡ f)) bound
elsewhere_from price place rises before after a r q f low y bound are there least end le = record {
  least = λ r2 e2 q2 f2 k x2 y2 step over unlike start2 end2.
      let start = subst (λ n. IsCost price rises before n e2 x2) step.0 start2 in
      let end2 = subst (λ n. IsCost (turned price rises.count) rises after (rises.count - 1 - q) n y2) step.2
      (subst (λ n. IsCost (turned price rises.count) rises after (rises.count - 1 - n) f2 y2) step.1 end2) in
      let cheap = node_low price rises before r e2 x2 low are there over.start least start in
      let le2 = same_cost (turned price rises.count) rises after (rises.count - 1 - q) f y y2 end end2 in
      omega (arith, le, le2, cheap);
}

-- none of those between two rises, if the cheapest nodes of both and any step between them cost as much
pub elsewhere_rises : (price place : Price) (rises : Rises) (before after : List Node) (a : Asked) (r q low low2 paid bound : ℕ)
    → AreTables price rises before after → r < rises.count → q < rises.count
    → ((n : Node) → Contains before n → n.rise ≡ r → low ≤ n.cost)
    → ((n : Node) → Contains after n → n.rise ≡ rises.count - 1 - q → low2 ≤ n.cost)
    → ((e f : ℕ) (k : Kind) → paid ≤ price r e q f k) → bound ≤ low + low2 + paid
    → Elsewhere price place rises before after a (λ r2 e2 q2 f2. (r2 ≡ r) × (q2 ≡ q)) bound
elsewhere_rises price place rises before after a r q low low2 paid bound are there there2 least least2 each le = record {
  least = λ r2 e2 q2 f2 k x y step over unlike start2 end2.
      let start = subst (λ n. IsCost price rises before n e2 x) step.0 start2 in
      let end = subst (λ n. IsCost (turned price rises.count) rises after (rises.count - 1 - n) f2 y) step.1 end2 in
      let cheap = node_low price rises before r e2 x low are.before_least there over.start least start in
      let cheap2 = node_low (turned price rises.count) rises after (rises.count - 1 - q) f2 y low2 are.after_least (omega arith) over.end least2 end in
      let cost = subst (λ n. paid ≤ price n e2 q2 f2 k) (sym step.0) (subst (λ n. paid ≤ price r e2 n f2 k) (sym step.1) (each e2 f2 k)) in
      omega (arith, le, cheap, cheap2, cost);
}
