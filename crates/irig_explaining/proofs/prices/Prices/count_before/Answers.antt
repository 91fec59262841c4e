use Rattle.std.proofs.Common.{rules, of_calls, ltb, ℕ, ◌≡◌, ◌<◌, ◌≤◌, true, false, arith}
use Rattle.std.proofs.lemmas.List.Sorted.{IsPartitionedBy-ltb}
use Rattle.std.proofs.lemmas.Fn.{always_returns_same}
use Rattle.irig_explaining.specs.Distances.{rise_at}
use Rattle.irig_explaining.proofs.Passed.{no_pulse}
use Rattle.irig_explaining.proofs.prices.Prices.count_before.Goals as goal

ltb_below : (a b : ℕ) → ltb a b ≡ true → a < b
ltb_below a b e = search (rules, e)

ltb_not : (a b : ℕ) → ltb a b ≡ false → b ≤ a
ltb_not a b e = search (rules, e)

pub returns-clause-before : goal.returns-clause-before
returns-clause-before c = λ r lt.
    let p = c.args.self.now in let m = c.args.moment in
    let point = c.partition_point.ensures.partitioned (λ x. ltb x.rise m) (always_returns_same _ _ _ (λ a r f k. search (rules, of_calls)))
    (IsPartitionedBy-ltb (λ x. x.rise) p.pulses.now m p.order) in
    ltb_below (rise_at p r) m (point.0 r no_pulse (omega (arith, lt, c.partition_point.ensures.bound)) lt)

pub returns-clause-after : goal.returns-clause-after
returns-clause-after c = λ r le lt.
    let p = c.args.self.now in let m = c.args.moment in
    let point = c.partition_point.ensures.partitioned (λ x. ltb x.rise m) (always_returns_same _ _ _ (λ a r f k. search (rules, of_calls)))
    (IsPartitionedBy-ltb (λ x. x.rise) p.pulses.now m p.order) in
    ltb_not (rise_at p r) m (point.1 r no_pulse le lt)
