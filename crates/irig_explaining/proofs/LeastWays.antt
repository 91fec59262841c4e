-- The least of the ways to a claim, as a loop finds it.
use Rattle.std.proofs.Common.{◌≡◌, ◌+◌, ◌*◌, ◌^◌, ◌<◌, ◌≤◌, ℕ, List, get_or, MatchOption, slice_get, Some, sym, subst, inl, inr, arith, below_more}
use Rattle.std.proofs.Math.Nat.{mul-le-mul_left}
use Rattle.std.proofs.lemmas.Option.{get_or_from_slice_get}
use Rattle.irig_explaining.specs.declared.{claim.Claim.Claim, claim.Kind.Kind, rises.Rises.Rises, nodes.Node.Node, ways.Way.Way}
use Rattle.irig_explaining.specs.Explanation.{Price}
use Rattle.irig_explaining.specs.Nodes.{ComesFrom, Within, going}
use Rattle.irig_explaining.specs.Offers.{Offered}
use Rattle.irig_explaining.proofs.Members.{no_node}

-- a cost at which all is passed over fits
pub small_cost : (skip r cost : ℕ) → skip < 2 ^ 32 → r < 2 ^ 31 → cost ≤ skip * r → cost < 2 ^ 63
small_cost skip r cost s few h =
    let le : r ≤ 2 ^ 31 = omega arith in
    omega (arith, mul-le-mul_left skip le)

-- one more node is looked at
pub steps_more : (price : Price) (rises : Rises) (nodes : List Node) (i : ℕ) (to : Claim) (top : ℕ) (best w : Way)
    → ((u : ℕ) (m : Node) (k : Kind) → u < i → slice_get nodes u ≡ Some m → Within rises m to.rise
    → going price m to.rise to.element k ≤ top → best.cost ≤ going price m to.rise to.element k)
    → Offered price (get_or nodes i no_node) i to top best w
    → (u : ℕ) (m : Node) (k : Kind) → u < i + 1 → slice_get nodes u ≡ Some m → Within rises m to.rise
    → going price m to.rise to.element k ≤ top → w.cost ≤ going price m to.rise to.element k
steps_more price rises nodes i to top best w so_far o u m k h at within low =
    let P : ℕ → Type 0 = λ u. (m : Node) (k : Kind) → slice_get nodes u ≡ Some m → Within rises m to.rise
    → going price m to.rise to.element k ≤ top → w.cost ≤ going price m to.rise to.element k in
    below_more P i
    (λ u h m k at within low. omega (arith, so_far u m k h at within low, o.kept))
    (λ m k at within. subst (λ (x : Node). going price x to.rise to.element k ≤ top → w.cost ≤ going price x to.rise to.element k)
    (get_or_from_slice_get nodes i m no_node at) (o.least k))
    u h m k at within low

-- and what was found came from somewhere
pub backed_more : (price : Price) (rises : Rises) (nodes : List Node) (i : ℕ) (to : Claim) (top : ℕ) (best w : Way) (m : Node)
    → slice_get nodes i ≡ Some m → Within rises m to.rise
    → MatchOption best.from (best.cost ≡ rises.skip * to.rise) (λ u. ComesFrom price rises nodes to.rise to.element best u)
    → Offered price m i to top best w
    → MatchOption w.from (w.cost ≡ rises.skip * to.rise) (λ u. ComesFrom price rises nodes to.rise to.element w u)
backed_more price rises nodes i to top best w m at within so_far o =
    elim o.origin [
      | inl e ↦ subst (λ (x : Way). MatchOption x.from (x.cost ≡ rises.skip * to.rise) (λ u. ComesFrom price rises nodes to.rise to.element x u)) (sym e) so_far
      | inr p ↦ subst (λ f. MatchOption f (w.cost ≡ rises.skip * to.rise) (λ u. ComesFrom price rises nodes to.rise to.element w u)) (sym p.0) (record {
        before = m;
        at = at;
        within = within;
        exact = p.1;
      })
    ]
