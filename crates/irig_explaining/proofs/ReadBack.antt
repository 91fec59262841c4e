-- Claims that are read back from a node.
use Rattle.std.proofs.Common.{◌≡◌, ◌+◌, ◌*◌, ◌<◌, ◌≤◌, ◌++◌, ℕ, List, [], ◌∷◌, reverse, MatchOption, slice_get, Option, Some, None, ap, sym, subst, inl, inr, arith, refl}
use Rattle.std.specs.List.{All}
use Rattle.std.proofs.lemmas.List.{reverse-append}
use Rattle.std.proofs.lemmas.List.Elements.{All-contains}
use Rattle.std.proofs.lemmas.Option.{get_or_from_slice_get}
use Rattle.irig_explaining.specs.{Near.IsNear, Offers.IsLed}
use Rattle.irig_explaining.specs.declared.{near.Near.Near, claim.Claim.Claim, claim.Kind.Kind, rises.Rises.Rises, ends.End.End, nodes.Node.Node, ways.Way.Way}
use Rattle.irig_explaining.specs.Ends.{EndsAt, Follow, IsEnding, rises_left}
use Rattle.irig_explaining.specs.Explanation.{Price, AreClaims, cost_after}
use Rattle.irig_explaining.specs.Nodes.{AreNodes, ComesFrom, IsCost, IsLeast, IsLow, IsNode, claim_of}
use Rattle.irig_explaining.proofs.Members.{contains_at, no_node}

-- the claim of a node, of a kind
abbrev pub claim_as : Node → Kind → Claim
claim_as n k = record { rise = n.rise; element = n.element; kind = k }

-- the kind of the first claim says nothing of the claims after it
pub any_kind : (rises : Rises) (c : Claim) (k : Kind) (cs : List Claim) → AreClaims rises c cs
    → AreClaims rises (record { rise = c.rise; element = c.element; kind = k }) cs
any_kind rises c k [] h = h
any_kind rises c k (d ∷ ds) h = h

pub any_cost : (price : Price) (rises : Rises) (c : Claim) (k : Kind) (cs : List Claim)
    → cost_after price rises (record { rise = c.rise; element = c.element; kind = k }) cs ≡ cost_after price rises c cs
any_cost price rises c k [] = refl
any_cost price rises c k (d ∷ ds) = refl

-- no way costs less than a low number
pub below_way : (price : Price) (rises : Rises) (nodes : List Node) (q f low : ℕ) (w : Way) → IsLow price rises nodes q f low → (from : Option ℕ)
    → MatchOption from (w.cost ≡ rises.skip * q) (λ u. ComesFrom price rises nodes q f w u) → low ≤ w.cost
below_way price rises nodes q f low w h None b = omega (arith, h.first, b)
below_way price rises nodes q f low w h (Some u) b = omega (arith, h.steps b.before w.kind (contains_at nodes u b.before b.at) b.within, b.exact)

pub below_cost : (price : Price) (rises : Rises) (nodes : List Node) (q f low cost : ℕ) → IsLow price rises nodes q f low
    → IsCost price rises nodes q f cost → low ≤ cost
below_cost price rises nodes q f low cost low_ h = omega (arith, below_way price rises nodes q f low h.way low_ h.way.from h.is.backed, h.exact)

-- two least costs are the same
pub same_least : (price : Price) (rises : Rises) (nodes : List Node) (q f cost : ℕ) (w : Way) → IsLeast price rises nodes q f w
    → IsCost price rises nodes q f cost → w.cost ≡ cost
same_least price rises nodes q f cost w is h =
    let up = below_cost price rises nodes q f w.cost cost is.low h in
    let down = below_way price rises nodes q f h.way.cost w h.is.low w.from is.backed in
    omega (arith, up, down, h.exact)

-- the list as it is written: the claim comes after those that were read
pub reversed : (cs : List Claim) (c : Claim) → reverse (cs ++ c ∷ []) ≡ c ∷ reverse cs
reversed cs c = reverse-append cs (c ∷ [])

-- one claim more is read: it and those after it can follow the node before
step_back : (price : Price) (rises : Rises) (nodes : List Node) (n : Node) (cs : List Claim) (total : ℕ) (w : Way) (from : Option ℕ)
    → IsNode price rises rises.count nodes n → All (IsNode price rises rises.count nodes) nodes → AreClaims rises (claim_of n) cs
    → n.cost + cost_after price rises (claim_of n) cs ≡ total → w.cost ≡ n.cost
    → MatchOption from (w.cost ≡ rises.skip * n.rise) (λ u. ComesFrom price rises nodes n.rise n.element w u)
    → IsEnding price rises nodes (claim_as n w.kind ∷ cs) total from
step_back price rises nodes n cs total w None is each h exact same b =
    (any_kind rises (claim_of n) w.kind cs h, omega (arith, any_cost price rises (claim_of n) w.kind cs, exact, same, b))
step_back price rises nodes n cs total w (Some u) is each h exact same b =
    let m = b.before in
    let before = All-contains (IsNode price rises rises.count nodes) nodes m each (contains_at nodes u m b.at) in record {
      node = m;
      at = b.at;
      possible = ((before.rise, before.element), (b.within.later, b.within.near), any_kind rises (claim_of n) w.kind cs h);
      exact = omega (arith, any_cost price rises (claim_of n) w.kind cs, exact, same, b.exact);
    }

pub read_more : (price : Price) (rises : Rises) (nodes : List Node) (cs : List Claim) (total v : ℕ) (n : Node) (w : Way)
    → AreNodes price rises rises.count nodes → slice_get nodes v ≡ Some n → IsLeast price rises nodes n.rise n.element w
    → Follow price rises nodes (reverse cs) total v
    → IsEnding price rises nodes (reverse (cs ++ claim_as n w.kind ∷ [])) total w.from
read_more price rises nodes cs total v n w are at least follow =
    let is = All-contains (IsNode price rises rises.count nodes) nodes n are.each (contains_at nodes v n at) in
    let same : follow.node ≡ n = let e = follow.at in cc in
    let possible = subst (λ x. AreClaims rises (claim_of x) (reverse cs)) same follow.possible in
    let exact = subst (λ x. x.cost + cost_after price rises (claim_of x) (reverse cs) ≡ total) same follow.exact in
    subst (λ xs. IsEnding price rises nodes xs total w.from) (sym (reversed cs (claim_as n w.kind)))
    (step_back price rises nodes n (reverse cs) total w w.from is are.each possible exact
    (same_least price rises nodes n.rise n.element n.cost w least is.costs) least.backed)

-- a way to a node costs what it does
pub led_from : (price : Price) (rises : Rises) (nodes : List Node) (near : Near) (q f cost : ℕ) (w : Way) (from : Option ℕ)
    → IsNear rises.window nodes q near → MatchOption from (w.cost ≡ rises.skip * q) (λ u. ComesFrom price rises nodes q f w u) → w.cost ≡ cost
    → IsLed price rises nodes near q f cost
led_from price rises nodes near q f cost w None is b exact = inl (omega (arith, b, exact))
led_from price rises nodes near q f cost w (Some u) is b exact =
    let within = is.all u b.before b.at b.within.later b.within.near in
    inr (record {
      number = u;
      node = b.before;
      start = within.0;
      end = within.1;
      at = b.at;
      kind = w.kind;
      step = omega (arith, b.exact, exact);
    })

-- nodes come from those of earlier rises
pub left_smaller : (price : Price) (rises : Rises) (nodes : List Node) (v : ℕ) (n : Node) (w : Way) (from : Option ℕ) → slice_get nodes v ≡ Some n
    → MatchOption from (w.cost ≡ rises.skip * n.rise) (λ u. ComesFrom price rises nodes n.rise n.element w u)
    → rises_left nodes from < rises_left nodes (Some v)
left_smaller price rises nodes v n w None at b = omega arith
left_smaller price rises nodes v n w (Some u) at b =
    let here = ap (λ (x : Node). x.rise) (get_or_from_slice_get nodes v n no_node at) in
    let there = ap (λ (x : Node). x.rise) (get_or_from_slice_get nodes u b.before no_node b.at) in
    let later = b.within.later in omega (arith, here, there)

-- nothing is read yet: the end is one
pub ends_at : (price : Price) (rises : Rises) (nodes : List Node) (e : End) (last : Option ℕ) → AreNodes price rises rises.count nodes
    → MatchOption last (e.cost ≡ rises.skip * rises.count) (λ v. EndsAt rises nodes e.cost v) → IsEnding price rises nodes [] e.cost last
ends_at price rises nodes e None are b = (tt, sym b)
ends_at price rises nodes e (Some v) are b =
    let is = All-contains (IsNode price rises rises.count nodes) nodes b.last are.each (contains_at nodes v b.last b.at) in record {
      node = b.last;
      at = b.at;
      possible = (is.rise, is.element);
      exact = sym b.cost;
    }
