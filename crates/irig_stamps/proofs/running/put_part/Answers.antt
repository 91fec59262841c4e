use Rattle.std.proofs.Common.{List, ℕ, subst}
use Rattle.irig_stamps.specs.Steps.{Stops}
use Rattle.irig_stamps.proofs.RunSteps.{all-taken, not-taken}
use Rattle.irig_stamps.proofs.running.put_part.Goals as goal

pub returns-in-Ok-clause-step : goal.returns-in-Ok-clause-step
returns-in-Ok-clause-step g c start was is from h read =
    all-taken _ _ _ start was is from _ _ c.args.part.now c.args.text.now.items c.take_part.new.text.items c.args.state.now
    c.take_part.new.state c.print.result c.requires.empty c.print.ensures.ended h read c.in-Ok.ensures.taken c.print.ensures.printed

pub returns-in-Err-clause-step : goal.returns-in-Err-clause-step
returns-in-Err-clause-step g c start was is from h read =
    not-taken _ _ _ start was is from _ _ c.args.part.now c.args.text.now.items c.take_part.new.text.items c.args.state.now
    c.take_part.new.state c.in-Err.fault c.stop.result c.requires.empty h read c.in-Err.ensures.taken
    (subst (λ (t : List ℕ). Stops (g.W.Write.contents c.args.out.now) (g.W.Write.contents c.stop.new.out) t
    c.take_part.new.state.count c.in-Err.fault c.stop.result)
    c.deref.ensures.value c.stop.ensures)
