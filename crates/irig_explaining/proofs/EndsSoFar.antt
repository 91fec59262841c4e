-- The least of the ends, as a loop finds it.
use Rattle.std.proofs.Common.{◌≡◌, ◌+◌, ◌*◌, ◌^◌, ◌<◌, ◌≤◌, ◌⊎◌, ℕ, List, length, get_or, MatchOption, slice_get, Some, sym, subst, inl, inr, arith, below_more}
use Rattle.std.proofs.Math.Nat.{mul-le-mul_left}
use Rattle.std.proofs.lemmas.Option.{slice_get-get_or, get_or_from_slice_get}
use Rattle.std.proofs.lemmas.List.Elements.{All-get_or}
use Rattle.irig_explaining.specs.declared.{rises.Rises.Rises, ends.End.End, nodes.Node.Node}
use Rattle.irig_explaining.specs.Ends.{EndsAt, IsTable, ending}
use Rattle.irig_explaining.specs.Nodes.{IsNode}
use Rattle.irig_explaining.proofs.Members.{no_node}

-- what a table says of one of its nodes
pub record InTable (rises : Rises) (n : Node) : Type 0 where
  pub rise : n.rise < rises.count
  pub cost : n.cost ≤ rises.skip * n.rise

pub in_table : (rises : Rises) (nodes : List Node) (i : ℕ) → IsTable rises nodes → i < length nodes → InTable rises (get_or nodes i no_node)
in_table rises nodes i table lt =
    let is = All-get_or (IsNode table.0 rises rises.count nodes) nodes i no_node lt table.1.each in
    record { rise = is.rise; cost = omega (arith, is.costs.is.low.first, is.costs.exact) }

-- with what is passed over after it a cost fits
pub end_small : (rises : Rises) (n : Node) (most : ℕ) → InTable rises n → rises.skip < 2 ^ 32 → rises.count ≤ most → most ≤ 2 ^ 31 → n.cost < 2 ^ 63
end_small rises n most is fits few le =
    let lt = is.rise in let low : n.rise ≤ 2 ^ 31 = omega arith in
    let less : n.rise < 2 ^ 31 = omega arith in
    omega (arith, is.cost, mul-le-mul_left rises.skip low)

-- one more node is looked at
pub least_end : (rises : Rises) (nodes : List Node) (i : ℕ) (best e : End)
    → ((v : ℕ) (n : Node) → v < i → slice_get nodes v ≡ Some n → best.cost ≤ ending rises n)
    → e.cost ≤ best.cost → e.cost ≤ ending rises (get_or nodes i no_node)
    → (v : ℕ) (n : Node) → v < i + 1 → slice_get nodes v ≡ Some n → e.cost ≤ ending rises n
least_end rises nodes i best e so_far kept here v n h at =
    let P : ℕ → Type 0 = λ v. (n : Node) → slice_get nodes v ≡ Some n → e.cost ≤ ending rises n in
    below_more P i
    (λ v h n at. omega (arith, so_far v n h at, kept))
    (λ n at. subst (λ x. e.cost ≤ ending rises x) (get_or_from_slice_get nodes i n no_node at) here)
    v h n at

-- and what was found is one
pub backed_end : (rises : Rises) (nodes : List Node) (i : ℕ) (best e new : End) → i < length nodes
    → MatchOption best.last (best.cost ≡ rises.skip * rises.count) (λ v. EndsAt rises nodes best.cost v)
    → (e ≡ best) ⊎ (e ≡ new) → new.last ≡ Some i → new.cost ≡ ending rises (get_or nodes i no_node)
    → MatchOption e.last (e.cost ≡ rises.skip * rises.count) (λ v. EndsAt rises nodes e.cost v)
backed_end rises nodes i best e new lt so_far either last cost =
    let P : End → Type 0 = λ x. MatchOption x.last (x.cost ≡ rises.skip * rises.count) (λ v. EndsAt rises nodes x.cost v) in
    elim either [
      | inl same ↦ subst P (sym same) so_far
      | inr same ↦ subst P (sym same)
          (subst (λ f. MatchOption f (new.cost ≡ rises.skip * rises.count) (λ v. EndsAt rises nodes new.cost v)) (sym last) (record {
            last = get_or nodes i no_node;
            at = slice_get-get_or nodes i no_node lt;
            cost = cost;
          }))
    ]
