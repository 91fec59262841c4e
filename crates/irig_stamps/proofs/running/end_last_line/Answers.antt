use Rattle.std.proofs.Common.{rules, ◌≡◌, ◌≢◌, ◌<◌, [], length, ap, refl, arith}
use Rattle.std.proofs.KnownBytes.{Consumes-nil}
use Rattle.irig_stamps.specs.declared.fault.RunFault.TheVariants.{OutOfMemory}
use Rattle.std.proofs.lemmas.List.{nil_from_length}
use Rattle.irig_stamps.proofs.{RunSteps.ended-line, RunSteps.ended-whole, RunSteps.stopped}
use Rattle.irig_stamps.proofs.running.end_last_line.Goals as goal

pub returns-then-is_empty-clause-step : goal.returns-then-is_empty-clause-step
returns-then-is_empty-clause-step g c start left from at_end h =
    let none : length c.args.state.now.line.items ≡ 0 = search rules in
    ended-whole _ _ _ start left from _ _ _ _ h at_end (nil_from_length c.args.state.now.line.items none)

pub returns-in-Ok-clause-step : goal.returns-in-Ok-clause-step
returns-in-Ok-clause-step g c start left from at_end h =
    let many : 0 < length c.args.state.now.line.items = search rules in
    let some : c.args.state.now.line.items ≢ [] = λ e. absurd (omega (arith, many, ap length e)) in
    ended-line _ _ _ start left from _ _ c.args.text.now.items c.end_line.new.text.items c.args.state.now c.end_line.new.state c.print.result
    c.requires.empty some c.in-Ok.ensures.next c.print.ensures.ended h at_end c.in-Ok.ensures.taken c.print.ensures.printed

pub returns-in-Err-clause-step : goal.returns-in-Err-clause-step
returns-in-Err-clause-step g c start left from at_end h = stopped _ _ _ start left left from _ _ [] _ _ OutOfMemory h (Consumes-nil _) refl
