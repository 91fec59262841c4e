use Rattle.std.proofs.Common.{arith}
use Rattle.std.proofs.lemmas.Bool.{le-leb, leb-true, lt-ltb, ltb-true}
use Rattle.irig_recording.proofs.PulseEdges.{count_open, count_closed}
use Rattle.irig_recording.proofs.edges.Edges.is_full.Goals as goal

pub returns-then-self : goal.returns-then-self
returns-then-self c =
    let count = count_open c.self.inside.pulses.items c.self.inside.is_open c.self.inside.rise c.args.self.now c.self.view_is c.if-self.true in (
      λ full. let most = leb-true c.args.most c.gap_at.result full in omega (arith, count, most, c.gap_at.ensures.place, c.self.invariant.1),
      λ many. le-leb c.args.most c.gap_at.result (omega (arith, count, many, c.gap_at.ensures.place, c.self.invariant.1)),
    )

pub returns-else-self : goal.returns-else-self
returns-else-self c =
    let count = count_closed c.self.inside.pulses.items c.self.inside.is_open c.self.inside.rise c.args.self.now c.self.view_is c.if-self.false in (
      λ full. let most = ltb-true c.args.most c.gap_at-else-self.result full in
          omega (arith, count, most, c.gap_at-else-self.ensures.place, c.self.invariant.1),
      λ many. lt-ltb c.args.most c.gap_at-else-self.result (omega (arith, count, many, c.gap_at-else-self.ensures.place, c.self.invariant.1)),
    )
