use Rattle.std.proofs.Common.{rules, of_calls, ltb, ℕ, subst, ◌≡◌, ◌<◌, ◌≤◌, true, false, arith}
use Rattle.std.proofs.lemmas.List.Sorted.{IsPartitionedBy-ltb}
use Rattle.std.proofs.lemmas.{Option.get_or_from_slice_get, Option.slice_get_within, Fn.always_returns_same}
use Rattle.irig_explaining.specs.declared.nodes.Node.{Node}
use Rattle.irig_explaining.proofs.Members.{no_node}
use Rattle.irig_explaining.proofs.near.of_rises_before.Goals as goal

ltb_below : (a b : ℕ) → ltb a b ≡ true → a < b
ltb_below a b e = search (rules, e)

ltb_not : (a b : ℕ) → ltb a b ≡ false → b ≤ a
ltb_not a b e = search (rules, e)

pub returns : goal.returns
returns c =
    let xs = c.args.nodes.now in let q = c.args.rise in
    let point = c.partition_point.ensures.partitioned (λ n. ltb n.rise q) (always_returns_same _ _ _ (λ a r f k. search (rules, of_calls)))
    (IsPartitionedBy-ltb (λ n. n.rise) xs q c.requires) in
    record {
      below = c.partition_point.ensures.bound;
      before = λ u m at lt. ltb_below m.rise q
          (subst (λ (x : Node). ltb x.rise q ≡ true) (get_or_from_slice_get xs u m no_node at) (point.0 u no_node (omega arith) lt));
      after = λ u m at le. ltb_not m.rise q
          (subst (λ (x : Node). ltb x.rise q ≡ false) (get_or_from_slice_get xs u m no_node at) (point.1 u no_node le (slice_get_within xs u m at)));
    }
