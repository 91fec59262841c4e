use Rattle.std.proofs.Common.{arith, sym, ◌∙◌, ◌≡◌, ◌<◌, ◌≤◌, Some, None, subst}
use Rattle.irig_recording.specs.declared.pulse.Pulse.{Pulse}
use Rattle.irig_track.specs.Sides.{Took, ReachesFrom}
use Rattle.irig_track.proofs.Turns.{begun_none, begun_rise, begun_fall, begun_both}
use Rattle.irig_track.proofs.toggle.begin.Goals as goal

pub returns-then-first-a-2-clause-begun : goal.returns-then-first-a-2-clause-begun
returns-then-first-a-2-clause-begun c = begun_rise c.args.a c.in-Some.first _ _ c.requires.left
    (c.take_next.ensures.took c.in-Some.first (sym c.in-Some.ensures.next)) c.if-first-a-2.true

pub returns-then-first-a-3-clause-begun : goal.returns-then-first-a-3-clause-begun
returns-then-first-a-3-clause-begun c = begun_fall c.args.a c.in-Some.first _ _ c.requires.left
    (c.take_next.ensures.took c.in-Some.first (sym c.in-Some.ensures.next)) (omega arith) c.if-first-a-3.true

pub returns-else-first-a-3-clause-begun : goal.returns-else-first-a-3-clause-begun
returns-else-first-a-3-clause-begun c =
    let t : Took c.in-Some.first c.args.pulses.now c.take_next.new.pulses = c.take_next.ensures.took c.in-Some.first (sym c.in-Some.ensures.next) in
    let reach : c.args.a ≤ c.in-Some.first.fall = subst (ReachesFrom c.args.a) t.right c.requires.right in
    begun_both c.args.a c.in-Some.first _ c.take_next.new.pulses _ c.requires.left t c.put_last.ensures.wrote (omega arith) (omega arith)

pub returns-in_default-clause-begun : goal.returns-in_default-clause-begun
returns-in_default-clause-begun c = begun_none c.args.a _ c.requires.left
    (λ p is. let e : Some p ≡ Some c.in-Some.first = sym is ∙ sym c.in-Some.ensures.next in let same : p ≡ c.in-Some.first = cc in
    subst (λ (q : Pulse). c.args.a < q.rise) (sym same) c.if-first-a.false)

pub returns-in_default-2-clause-begun : goal.returns-in_default-2-clause-begun
returns-in_default-2-clause-begun c = begun_none c.args.a _ c.requires.left
    (λ p is. let e : Some p ≡ None = sym is ∙ sym c.next.ensures.next ∙ c.in_default.is in absurd (cc))
