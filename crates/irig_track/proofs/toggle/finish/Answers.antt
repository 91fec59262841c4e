use Rattle.std.proofs.Common.{arith, sym, ◌∙◌, ◌≡◌, Some, None, ap}
use Rattle.irig_recording.specs.declared.pulse.Pulse.{Pulse}
use Rattle.irig_track.specs.Sides.{right_of}
use Rattle.irig_track.proofs.Turns.{NotHere, finished_some, finished_below, finished_above, finished_at}
use Rattle.irig_track.proofs.toggle.finish.Goals.{In_default, in_default-via-in-Some+else-last-b, in_default-via-in_default}
use Rattle.irig_track.proofs.toggle.finish.Goals as goal

pub returns-in-Some : goal.returns-in-Some
returns-in-Some c = finished_some c.args.b c.args.rise c.in-Some.last _ c.take_next.new.pulses _ c.requires.rises c.requires.left c.if-last-b.true
    (c.take_next.ensures.took c.in-Some.last (sym c.in-Some.ensures.next)) c.put_last.ensures.wrote

-- no pulse rises at the second time
not_here : (c : In_default) → NotHere c.args.b (right_of c.args.pulses.now)
not_here c = λ p is. elim c.in_default.branch [
  | in_default-via-in-Some+else-last-b w ↦ (let e : Some p ≡ Some w.in-Some.last = sym is ∙ sym w.in-Some.ensures.next in let same : p ≡ w.in-Some.last =
      cc in let r : p.rise ≡ w.in-Some.last.rise = ap (λ (q : Pulse). q.rise) same in omega (arith, w.if-last-b.false))
  | in_default-via-in_default w ↦ (let e : Some p ≡ None = sym is ∙ sym c.next.ensures.next ∙ w.in_default.is in absurd (cc))
]

pub returns-then-rise-b : goal.returns-then-rise-b
returns-then-rise-b c = finished_below c.args.b c.args.rise _ _ c.requires.left c.requires.right
    (not_here (goal.at.returns-then-rise-b c).In_default) (omega arith) c.put_last-then-rise-b.ensures.wrote

pub returns-then-b-rise : goal.returns-then-b-rise
returns-then-b-rise c = finished_above c.args.b c.args.rise _ _ c.requires.left c.requires.right
    (not_here (goal.at.returns-then-b-rise c).In_default) (omega arith) c.put_last-then-b-rise.ensures.wrote

pub returns-else-b-rise : goal.returns-else-b-rise
returns-else-b-rise c = finished_at c.args.b c.args.rise _ c.requires.left c.requires.right
    (not_here (goal.at.returns-else-b-rise c).In_default) (omega arith)
