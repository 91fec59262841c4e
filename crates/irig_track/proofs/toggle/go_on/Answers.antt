use Rattle.std.proofs.Common.{arith, sym, ◌∙◌, subst, refl}
use Rattle.irig_recording.specs.Recording.{RisesFrom}
use Rattle.irig_track.specs.{Edges.pulse, Sides.Took, Sides.waiting}
use Rattle.irig_track.proofs.Turns.{stays_same, stays_step, waiting_on, under_on, late_some, late_none, waits_below}
use Rattle.irig_track.proofs.toggle.go_on.Goals as goal

pub loop-first-init : goal.loop-first-init
loop-first-init c = (refl, c.requires.left, stays_same c.args.b c.args.pulses.now, refl)

pub put_last-requires : goal.put_last-requires
put_last-requires c = omega arith

pub loop-first-preserved : goal.loop-first-preserved
loop-first-preserved c =
    let i = c.loop-first.invariant in
    let t : Took c.in-Some.first c.loop-first.pulses c.take_next.new.pulses = c.take_next.ensures.took c.in-Some.first (sym c.in-Some.ensures.next) in
    let o = c.put_last.ensures.wrote in
    let rises : RisesFrom 0 (waiting c.loop-first.pulses c.loop-first.rise) = subst (RisesFrom 0) (sym i.0) c.requires.rises in (
      waiting_on c.loop-first.rise c.in-Some.first c.loop-first.pulses c.take_next.new.pulses _ t o ∙ i.0,
      under_on c.args.b c.loop-first.rise c.in-Some.first _ c.take_next.new.pulses _ rises i.1 c.if-first-b.false t o,
      stays_step c.args.b c.in-Some.first (pulse c.loop-first.rise c.in-Some.first.rise) _ _ c.take_next.new.pulses _ (omega (arith, c.if-first-b.false))
          (omega (arith, c.if-first-b.false, (waits_below c.loop-first.rise c.in-Some.first c.loop-first.pulses c.take_next.new.pulses rises t).1.0)) i.2 t o,
      omega arith,
    )

pub returns-then-first-b-clause-right : goal.returns-then-first-b-clause-right
returns-then-first-b-clause-right c =
    late_some c.args.b c.loop-first.rise c.in-Some.first c.loop-first.pulses (subst (RisesFrom 0) (sym c.loop-first.invariant.0) c.requires.rises)
    (sym c.in-Some.ensures.next) c.if-first-b.true

pub returns-in_default-clause-right : goal.returns-in_default-clause-right
returns-in_default-clause-right c = late_none c.args.b c.loop-first.pulses (sym c.next.ensures.next ∙ c.in_default.is)
