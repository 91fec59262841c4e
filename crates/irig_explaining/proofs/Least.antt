-- No explanation is cheaper than the cheapest end.
use Rattle.std.proofs.Common.{◌≡◌, ◌+◌, ◌-◌, ◌*◌, ◌<◌, ◌≤◌, ℕ, List, [], ◌∷◌, ap, subst, inl, inr, arith}
use Rattle.irig_explaining.specs.declared.{claim.Claim.Claim, claim.Kind.Kind, rises.Rises.Rises, ends.End.End, nodes.Node.Node}
use Rattle.irig_explaining.specs.Ends.{IsEnd}
use Rattle.irig_explaining.specs.Explanation.{Price, IsClaim, AreClaims, IsExplanation, cost, cost_after}
use Rattle.irig_explaining.specs.declared.claim.Kind.TheVariants.{Jump}
use Rattle.irig_explaining.specs.Nodes.{AreNodes, IsKnown, IsLow, Within, going}

pub first_is : (rises : Rises) (c : Claim) (cs : List Claim) → AreClaims rises c cs → IsClaim rises c
first_is rises c [] h = h
first_is rises c (d ∷ ds) h = h.0

-- what was spent up to a claim: the cheapest way to it costs no more
abbrev pub IsSpent : Price → Rises → List Node → ℕ → ℕ → ℕ → Type 0
IsSpent price rises nodes q f spent = (low : ℕ) → IsLow price rises nodes q f low → low ≤ spent

-- at least what is passed over before the first one
pub spent_first : (price : Price) (rises : Rises) (nodes : List Node) (q f : ℕ) → IsSpent price rises nodes q f (rises.skip * q)
spent_first price rises nodes q f low h = h.first

-- a step from a claim, by a node that is it
pub same_step : (price : Price) (n : Node) (r e q f x : ℕ) (k : Kind) → n.rise ≡ r → n.element ≡ e → n.cost ≤ x
    → going price n q f k ≤ x + price r e q f k
same_step price n r e q f x k beside same cheap =
    omega (arith, ap (λ v. price v n.element q f k) beside, ap (λ v. price r v q f k) same, cheap)

-- and by the node that stands for it
pub spent_step : (price : Price) (rises : Rises) (nodes : List Node) (r e q f spent : ℕ) (k : Kind) → IsKnown price rises nodes r e
    → r < q → q ≤ r + rises.window → IsSpent price rises nodes r e spent → IsSpent price rises nodes q f (spent + price r e q f k)
spent_step price rises nodes r e q f spent k known later near paid low h =
    let m = known.node in let same = known.beside in
    let w : Within rises m q = record { later = omega (arith, same); near = omega (arith, same) } in
    let step : (l : Kind) × (going price m q f l ≤ known.least + price r e q f k) = elim known.steps [
      | inl itself ↦ (k, same_step price m r e q f known.least k same itself known.cheap)
      | inr jump ↦ (Jump, jump q f k)
    ] in
    let least : known.least ≤ spent = let x = paid known.costs.way.cost known.costs.is.low in omega (arith, x, known.costs.exact) in
    omega (arith, h.steps m step.0 known.there w, step.1, least)

-- the node that stands for a claim costs no more than what was spent
pub known_cheap : (price : Price) (rises : Rises) (nodes : List Node) (r e spent : ℕ) (known : IsKnown price rises nodes r e)
    → IsSpent price rises nodes r e spent → known.node.cost ≤ spent
known_cheap price rises nodes r e spent known paid =
    omega (arith, paid known.costs.way.cost known.costs.is.low, known.costs.exact, known.cheap)

-- any way on from a claim costs as much as the cheapest end
least_after : (price : Price) (rises : Rises) (nodes : List Node) (e : End) → AreNodes price rises rises.count nodes
    → IsEnd rises nodes e → (c : Claim) (cs : List Claim) (spent : ℕ) → AreClaims rises c cs → IsSpent price rises nodes c.rise c.element spent
    → e.cost ≤ spent + cost_after price rises c cs
least_after price rises nodes e are is c [] spent h paid =
    let known = are.known c.rise c.element h.0 h.1 in
    let ends = subst (λ r. e.cost ≤ known.node.cost + rises.skip * (rises.count - r - 1)) known.beside (is.least known.node known.there) in
    omega (arith, ends, known_cheap price rises nodes c.rise c.element spent known paid)
least_after price rises nodes e are is c (d ∷ ds) spent h paid =
    let c_is = h.0 in
    let known = are.known c.rise c.element c_is.0 c_is.1 in
    let more = spent_step price rises nodes c.rise c.element d.rise d.element spent d.kind known h.1.0 h.1.1 paid in
    let rest = least_after price rises nodes e are is d ds (spent + price c.rise c.element d.rise d.element d.kind) h.2 more in
    omega (arith, rest)

pub least_cost : (price : Price) (rises : Rises) (nodes : List Node) (e : End) → AreNodes price rises rises.count nodes
    → IsEnd rises nodes e → (x : List Claim) → IsExplanation rises x → e.cost ≤ cost price rises x
least_cost price rises nodes e are is [] h = is.none
least_cost price rises nodes e are is (c ∷ cs) h =
    least_after price rises nodes e are is c cs (rises.skip * c.rise) h (spent_first price rises nodes c.rise c.element)
