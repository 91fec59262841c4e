use Rattle.std.proofs.Common.{arith}
use Rattle.std.proofs.lemmas.Result.{err_from_is_err_and}
use Rattle.irig_vcd.proofs.Followed.{ended_in, high_in}
use Rattle.irig_vcd.proofs.trace.Trace.finish.Goals as goal

pub returns-clause-edges : goal.returns-clause-edges
returns-clause-edges c = λ changes h.
    rw (← c.advance.ensures.extent) (ended_in changes c.args.end c.advance.new.self _ c.in_ok-advance.ensures.time
    (λ all is. rw (← c.moved-place.ensures) ((rw c.most_pulses-most.ensures.value at (c.in_ok-keep.ensures.ok all)) is)) (c.in_ok-advance.ensures.ok changes h))

pub returns-in_err-keep-clause-memory : goal.returns-in_err-keep-clause-memory
returns-in_err-keep-clause-memory c =
    let p = err_from_is_err_and c.from_residual-in_err-keep.result c.from_residual-in_err-keep.ensures.1 in
    rw p.1 (λ changes h. high_in changes c.advance.new.self c.args.end (c.in_ok-advance.ensures.ok changes h) (omega (arith, c.in_ok-advance.ensures.time))
    c.in_err-keep.ensures.refused.0)
