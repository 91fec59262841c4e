use Rattle.std.proofs.Common.{◌≡◌, ◌⊎◌, ◌<◌, ◌≤◌}
use Rattle.irig_explaining.specs.{Bounds.Elsewhere, Ways.OtherWay}
use Rattle.irig_explaining.proofs.tables.Tables.with_steps_of_claims.Given as goal

-- the least of those to the elements so far
abbrev pub invariant-loop-element : goal.invariant-loop-element
invariant-loop-element g l = record {
  kept : l.least ≤ l.fn.best;
  least : Elsewhere (g.C.Costs.price l.self.costs.now) (g.C.Places.place l.self.costs.now) l.self.rises l.self.before.items l.self.after.items
      l.fn.asked (λ r e q f. (r ≡ l.fn.rise) × (q ≡ l.fn.later) × (f < l.element)) l.least;
  origin : (l.least ≡ l.fn.best) ⊎ OtherWay (g.C.Costs.price l.self.costs.now) (g.C.Places.place l.self.costs.now) l.self.rises
      l.self.before.items l.self.after.items l.fn.asked l.least;
}
