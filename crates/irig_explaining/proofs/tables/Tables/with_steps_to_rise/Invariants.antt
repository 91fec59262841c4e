use Rattle.std.proofs.Common.{◌≡◌, ◌⊎◌, ◌<◌, ◌≤◌, ◌+◌}
use Rattle.irig_explaining.specs.{Bounds.Elsewhere, Ways.OtherWay}
use Rattle.irig_explaining.proofs.tables.Tables.with_steps_to_rise.Given as goal

-- the least of those from the rises so far
abbrev pub invariant-loop-back : goal.invariant-loop-back
invariant-loop-back g l = record {
  kept : l.least ≤ l.fn.best;
  least : Elsewhere (g.C.Costs.price l.self.costs.now) (g.C.Places.place l.self.costs.now) l.self.rises l.self.before.items l.self.after.items
      l.fn.asked (λ r e q f. (l.fn.asked.interval < r + l.back) × (q ≡ l.fn.later)) l.least;
  origin : (l.least ≡ l.fn.best) ⊎ OtherWay (g.C.Costs.price l.self.costs.now) (g.C.Places.place l.self.costs.now) l.self.rises
      l.self.before.items l.self.after.items l.fn.asked l.least;
}
