-- Steps between nodes are enough, if a jump gives the interval another place.
use Rattle.std.proofs.Common.{◌≡◌, ◌+◌, ◌-◌, ◌<◌, ◌≤◌, ◌^◌, ◌∙◌, ℕ, List, ap, sym, subst, inl, inr, arith, refl}
use Rattle.std.specs.List.{All, Contains}
use Rattle.std.proofs.lemmas.List.Elements.{All-weaker}
use Rattle.irig_explaining.specs.declared.{asked.Asked.Asked, claim.Kind.Kind, rises.Rises.Rises, nodes.Node.Node}
use Rattle.irig_explaining.specs.declared.claim.Kind.TheVariants.{Jump}
use Rattle.irig_explaining.specs.Bounds.{Elsewhere, ElsewhereBetween}
use Rattle.irig_explaining.specs.{Explanation.Price, Nodes.AreNodes, Nodes.IsCost, Nodes.IsNode, Nodes.going, Turned.AreTables, Turned.turned}
use Rattle.irig_explaining.proofs.{Elsewhere.same_cost, Growing.small_least, Placed.turned_back}

-- no cost in a table of few rises is large
pub small_costs : (price : Price) (rises : Rises) (nodes : List Node) → AreNodes price rises rises.count nodes → rises.count ≤ 2 ^ 30
    → rises.skip < 2 ^ 32 → All (λ n. n.cost < 2 ^ 62) nodes
small_costs price rises nodes are few fits =
    All-weaker (IsNode price rises rises.count nodes) (λ n. n.cost < 2 ^ 62)
    (λ n h. omega (arith, small_least price rises nodes n.rise n.element h.costs.way h.costs.is h.rise few fits, h.costs.exact)) nodes are.each

-- a jump to a node of the other table, read forwards
turned_jump : (price : Price) (count : ℕ) (m : Node) (r e q f y : ℕ) (k : Kind) → r < count → q < count → m.rise ≡ count - 1 - q
    → going (turned price count) m (count - 1 - r) e Jump ≤ y + turned price count (count - 1 - q) f (count - 1 - r) e k
    → m.cost + price r e q m.element Jump ≤ y + price r e q f k
turned_jump price count m r e q f y k there there2 beside le =
    let back : turned price count m.rise m.element (count - 1 - r) e Jump ≡ price r e q m.element Jump
    = ap (λ v. turned price count v m.element (count - 1 - r) e Jump) beside ∙ rw (turned_back count r there, turned_back count q there2) refl in
    let paid : turned price count (count - 1 - q) f (count - 1 - r) e k ≡ price r e q f k
    = rw (turned_back count r there, turned_back count q there2) refl in
    omega (arith, le, back, paid)

-- what is said of all pairs of nodes of two rises
abbrev Pairs : Price → Price → Rises → List Node → List Node → Asked → ℕ → ℕ → ℕ → Type 0
Pairs price place rises before after a r q bound = (n m : Node) → Contains before n → n.rise ≡ r → Contains after m
    → m.rise ≡ rises.count - 1 - q → ElsewhereBetween price place a (n.cost + m.cost) r n.element q m.element bound

-- a step between two claims costs as much as one between the nodes that stand for them
pair_low : (price place : Price) (rises : Rises) (before after : List Node) (a : Asked) (r e q f x y bound : ℕ) (k : Kind)
    → AreTables price rises before after → r < rises.count → q < rises.count → e < rises.states → f < rises.states
    → ((r e q f : ℕ) → place r e q f Jump ≡ a.place → ⊥) → Pairs price place rises before after a r q bound
    → (place r e q f k ≡ a.place → ⊥) → IsCost price rises before r e x
    → IsCost (turned price rises.count) rises after (rises.count - 1 - q) f y → bound ≤ x + price r e q f k + y
pair_low price place rises before after a r e q f x y bound k are there there2 early late jumps pairs unlike start end =
    let known = are.before_least.known r e there early in
    let rest = are.after_least.known (rises.count - 1 - q) f (omega arith) late in
    let n = known.node in let m = rest.node in
    let pair = pairs n m known.there known.beside rest.there rest.beside in
    let x_is = same_cost price rises before r e known.least x known.costs start in
    let y_is = same_cost (turned price rises.count) rises after (rises.count - 1 - q) f rest.least y rest.costs end in
    elim known.steps [
      | inl same ↦ (let from = ap (λ v. price r v q m.element k) same in let from_jump = ap (λ v. price r v q m.element Jump) same in elim rest.steps [
        | inl same2 ↦
            let other : place r n.element q m.element k ≡ a.place → ⊥ = λ is. unlike
            (ap (λ v. place r e q v k) (sym same2) ∙ (ap (λ v. place r v q m.element k) (sym same) ∙ is)) in
            omega (arith, pair.least k other, from, ap (λ v. price r e q v k) same2, known.cheap, rest.cheap, x_is, y_is)
        | inr jump ↦
            let back = turned_jump price rises.count m r e q f rest.least k there there2 rest.beside (jump (rises.count - 1 - r) e k) in
            omega (arith, pair.least Jump (jumps r n.element q m.element), from_jump, back, known.cheap, x_is, y_is)
      ])
      | inr jump ↦ (let forth = jump q f k in let beside = ap (λ v. price v n.element q f Jump) known.beside in elim rest.steps [
        | inl same2 ↦
            omega (arith, pair.least Jump (jumps r n.element q m.element), ap (λ v. price r n.element q v Jump) same2, forth, beside, rest.cheap, x_is, y_is)
        | inr jump2 ↦
            let back = turned_jump price rises.count m r n.element q f rest.least Jump there there2 rest.beside
            (jump2 (rises.count - 1 - r) n.element Jump) in
            omega (arith, pair.least Jump (jumps r n.element q m.element), forth, beside, back, x_is, y_is)
      ])
    ]

pub nodes_enough : (price place : Price) (rises : Rises) (before after : List Node) (a : Asked) (r q bound : ℕ)
    → AreTables price rises before after → r < rises.count → q < rises.count
    → ((r e q f : ℕ) → place r e q f Jump ≡ a.place → ⊥)
    → ((n m : Node) → Contains before n → n.rise ≡ r → Contains after m
    → m.rise ≡ rises.count - 1 - q → ElsewhereBetween price place a (n.cost + m.cost) r n.element q m.element bound)
    → Elsewhere price place rises before after a (λ r2 e2 q2 f2. (r2 ≡ r) × (q2 ≡ q)) bound
nodes_enough price place rises before after a r q bound are there there2 jumps pairs = record {
  least = λ r2 e q2 f k x y step over unlike start2 end2.
      let start = subst (λ n. IsCost price rises before n e x) step.0 start2 in
      let end = subst (λ n. IsCost (turned price rises.count) rises after (rises.count - 1 - n) f y) step.1 end2 in
      let other : place r e q f k ≡ a.place → ⊥ = λ is. unlike (ap (λ v. place v e q2 f k) step.0 ∙ (ap (λ v. place r e v f k) step.1 ∙ is)) in
      omega (
        arith,
        ap (λ v. price v e q2 f k) step.0,
        ap (λ v. price r e v f k) step.1,
        pair_low price place rises before after a r e q f x y bound k are there there2 over.start over.end jumps pairs other start end,
      );
}
