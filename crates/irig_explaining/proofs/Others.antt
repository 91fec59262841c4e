-- An explanation that does not give an interval the place, for each cost that the code takes.
use Rattle.std.proofs.Common.{◌≡◌, ◌+◌, ◌-◌, ◌*◌, ◌<◌, ◌≤◌, ◌∙◌, ℕ, zero, suc, List, [], ◌∷◌, MatchOption, Option, Some, None, ap, sym, subst, inl, inr, arith}
use Rattle.std.proofs.lemmas.List.Elements.{All-contains}
use Rattle.irig_explaining.specs.declared.{claim.Claim.Claim, claim.Kind.Kind, rises.Rises.Rises, nodes.Node.Node, ways.Way.Way, asked.Asked.Asked}
use Rattle.irig_explaining.specs.declared.claim.Kind.TheVariants.{Next}
use Rattle.irig_explaining.specs.Explanation.{Price, AreClaims, cost_after}
use Rattle.irig_explaining.specs.Nodes.{AreNodes, ComesFrom, IsCost, IsNode}
use Rattle.irig_explaining.specs.{Bounds.CostsWithout, Sure.GivesAfter, Sure.IsOther, Turned.AreTables, Turned.turned, Ways.OtherWay}
use Rattle.irig_explaining.proofs.Members.{contains_at}
use Rattle.irig_explaining.proofs.ReadBack.{any_kind, any_cost}

-- the claim that a rise is an element, of some kind
abbrev claim : ℕ → ℕ → Claim
claim r e = record { rise = r; element = e; kind = Next }

abbrev claim_by : ℕ → ℕ → Kind → Claim
claim_by r e k = record { rise = r; element = e; kind = k }

-- the kind of the first claim says nothing of places
any_place : (place : Price) (a : Asked) (r e : ℕ) (k : Kind) (cs : List Claim) → GivesAfter place a (claim_by r e k) cs → GivesAfter place a (claim r e) cs
any_place place a r e k [] h = h
any_place place a r e k (c ∷ cs) h = h

-- one claim more in front: one before the interval
one_before : (price place : Price) (rises : Rises) (before : List Node) (a : Asked) (r e x : ℕ) (w : Way) (from : Option ℕ) (cs : List Claim)
    → AreNodes price rises rises.count before → MatchOption from (w.cost ≡ rises.skip * r) (λ u. ComesFrom price rises before r e w u) → w.cost ≡ x
    → r ≤ a.interval → AreClaims rises (claim r e) cs → (GivesAfter place a (claim r e) cs → ⊥)
    → ((m : Node) (ds : List Claim) → m.rise < r → IsNode price rises rises.count before m → AreClaims rises (claim m.rise m.element) ds
    → (GivesAfter place a (claim m.rise m.element) ds → ⊥)
    → IsOther price place rises a (m.cost + cost_after price rises (claim m.rise m.element) ds))
    → IsOther price place rises a (x + cost_after price rises (claim r e) cs)
one_before price place rises before a r e x w None cs are b same early h unlike more = record {
  claims = claim_by r e w.kind ∷ cs;
  possible = any_kind rises (claim r e) w.kind cs h;
  exact = omega (arith, any_cost price rises (claim r e) w.kind cs, b, same);
  elsewhere = λ p. unlike (any_place place a r e w.kind cs p);
}
one_before price place rises before a r e x w (Some u) cs are b same early h unlike more =
    let m = b.before in let later = b.within.later in let near = b.within.near in
    let is = All-contains (IsNode price rises rises.count before) before m are.each (contains_at before u m b.at) in
    let total : m.cost + cost_after price rises (claim m.rise m.element) (claim_by r e w.kind ∷ cs) ≡ x + cost_after price rises (claim r e) cs
    = omega (arith, b.exact, same, any_cost price rises (claim r e) w.kind cs) in
    subst (IsOther price place rises a) total
    (more m (claim_by r e w.kind ∷ cs) later is ((is.rise, is.element), (later, near), any_kind rises (claim r e) w.kind cs h)
    (λ p. elim p [ inl q ↦ let over = q.0.1 in absurd (omega arith) | inr q ↦ unlike (any_place place a r e w.kind cs q) ]))

-- all claims before one before the interval
all_before : (price place : Price) (rises : Rises) (before : List Node) (a : Asked) → AreNodes price rises rises.count before
    → (fuel r e x : ℕ) (cs : List Claim) → r < fuel → IsCost price rises before r e x → r ≤ a.interval → AreClaims rises (claim r e) cs
    → (GivesAfter place a (claim r e) cs → ⊥) → IsOther price place rises a (x + cost_after price rises (claim r e) cs)
all_before price place rises before a are zero r e x cs lt costs early h unlike = absurd (omega arith)
all_before price place rises before a are (suc fuel) r e x cs lt costs early h unlike =
    one_before price place rises before a r e x costs.way costs.way.from cs are costs.is.backed costs.exact early h unlike
    (λ m ds less is h2 unlike2. all_before price place rises before a are fuel m.rise m.element m.cost ds (omega arith) is.costs (omega arith) h2 unlike2)

-- claims after one
record Rest (price place : Price) (rises : Rises) (a : Asked) (r e total : ℕ) : Type 0 where
  claims : List Claim
  possible : AreClaims rises (claim r e) claims
  exact : cost_after price rises (claim r e) claims ≡ total
  late : a.interval < r → GivesAfter place a (claim r e) claims → ⊥

-- one claim more after
one_after : (price place : Price) (rises : Rises) (after : List Node) (a : Asked) (q e y : ℕ) (w : Way) (from : Option ℕ)
    → AreNodes (turned price rises.count) rises rises.count after
    → MatchOption from (w.cost ≡ rises.skip * q) (λ u. ComesFrom (turned price rises.count) rises after q e w u) → w.cost ≡ y
    → q < rises.count → e < rises.states
    → ((m : Node) → m.rise < q → IsNode (turned price rises.count) rises rises.count after m
    → Rest price place rises a (rises.count - 1 - m.rise) m.element m.cost)
    → Rest price place rises a (rises.count - 1 - q) e y
one_after price place rises after a q e y w None are b same lt small more =
    let back : rises.count - (rises.count - 1 - q) - 1 ≡ q = omega arith in record {
      claims = [];
      possible = (omega arith, small);
      exact = ap (λ n. rises.skip * n) back ∙ (sym b ∙ same);
      late = λ _ p. p;
    }
one_after price place rises after a q e y w (Some u) are b same lt small more =
    let m = b.before in let later = b.within.later in let near = b.within.near in
    let is = All-contains (IsNode (turned price rises.count) rises rises.count after) after m are.each (contains_at after u m b.at) in
    let rest = more m later is in let r = rises.count - 1 - m.rise in let m_low = is.rise in
    record {
      claims = claim_by r m.element w.kind ∷ rest.claims;
      possible = ((omega arith, small), (omega arith, omega arith), any_kind rises (claim r m.element) w.kind rest.claims rest.possible);
      exact = omega (arith, b.exact, same, rest.exact, any_cost price rises (claim r m.element) w.kind rest.claims);
      late = λ late p. elim p [
        | inl o ↦ let over = o.0.0 in absurd (omega arith)
        | inr o ↦ rest.late (omega arith) (any_place place a r m.element w.kind rest.claims o)
      ];
    }

all_after : (price place : Price) (rises : Rises) (after : List Node) (a : Asked) → AreNodes (turned price rises.count) rises rises.count after
    → (fuel q e y : ℕ) → q < fuel → q < rises.count → e < rises.states → IsCost (turned price rises.count) rises after q e y
    → Rest price place rises a (rises.count - 1 - q) e y
all_after price place rises after a are zero q e y lt there small costs = absurd (omega arith)
all_after price place rises after a are (suc fuel) q e y lt there small costs =
    one_after price place rises after a q e y costs.way costs.way.from are costs.is.backed costs.exact there small
    (λ m less is. all_after price place rises after a are fuel m.rise m.element m.cost (omega arith) is.rise is.element is.costs)

-- each cost without a step over the interval is that of one
pub other_without : (price place : Price) (rises : Rises) (before after : List Node) (a : Asked) (total : ℕ)
    → AreTables price rises before after → a.interval < rises.count → CostsWithout rises before after a total → IsOther price place rises a total
other_without price place rises before after a total are there (inl none) = record {
  claims = [];
  possible = tt;
  exact = sym none;
  elsewhere = λ p. p;
}
other_without price place rises before after a total are there (inr (inl ends)) =
    let n = ends.node in let low = ends.early in
    let is = All-contains (IsNode price rises rises.count before) before n are.before_least.each ends.there in
    subst (IsOther price place rises a) (sym ends.exact)
    (all_before price place rises before a are.before_least (suc n.rise) n.rise n.element n.cost [] (omega arith) is.costs (omega arith)
    (is.rise, is.element) (λ p. p))
other_without price place rises before after a total are there (inr (inr begins)) =
    let n = begins.node in let low = begins.early in
    let is = All-contains (IsNode (turned price rises.count) rises rises.count after) after n are.after_least.each begins.there in
    let lt = is.rise in
    let rest = all_after price place rises after a are.after_least (suc n.rise) n.rise n.element n.cost (omega arith) is.rise is.element is.costs in
    let back : rises.count - n.rise - 1 ≡ rises.count - 1 - n.rise = omega arith in
    let total_is = subst (λ m. total ≡ n.cost + rises.skip * m) back begins.exact in record {
      claims = claim (rises.count - 1 - n.rise) n.element ∷ rest.claims;
      possible = rest.possible;
      exact = omega (arith, rest.exact, total_is);
      elsewhere = rest.late (omega arith);
    }

-- and each with one that gives it another place
pub other_over : (price place : Price) (rises : Rises) (before after : List Node) (a : Asked) (total : ℕ)
    → AreTables price rises before after → OtherWay price place rises before after a total → IsOther price place rises a total
other_over price place rises before after a total are o =
    let early = o.over.early in let late = o.over.late in let last = o.over.last in
    let back : rises.count - 1 - (rises.count - 1 - o.q) ≡ o.q = omega arith in
    let rest = subst (λ n. Rest price place rises a n o.f o.y) back
    (all_after price place rises after a are.after_least rises.count (rises.count - 1 - o.q) o.f o.y (omega arith) (omega arith) o.over.end o.end) in
    let cs = claim_by o.q o.f o.kind ∷ rest.claims in
    let same : o.x + cost_after price rises (claim o.r o.e) cs ≡ total
    = omega (arith, o.exact, rest.exact, any_cost price rises (claim o.q o.f) o.kind rest.claims) in
    subst (IsOther price place rises a) same
    (all_before price place rises before a are.before_least (suc o.r) o.r o.e o.x cs (omega arith) o.start (omega arith)
    ((omega arith, o.over.start), (omega arith, o.over.near), any_kind rises (claim o.q o.f) o.kind rest.claims rest.possible)
    (λ p. elim p [ inl s ↦ o.unlike s.1 | inr s ↦ rest.late late (any_place place a o.q o.f o.kind rest.claims s) ]))
