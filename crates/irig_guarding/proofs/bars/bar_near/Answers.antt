use Rattle.std.proofs.lemmas.Option.{slice_get-get_or}
use Rattle.irig_guarding.proofs.bars.bar_near.Goals as goal

pub loop-fault-preserved : goal.loop-fault-preserved
loop-fault-preserved c = λ recorded f lines led are.
    let i = c.loop-fault.fault-index in
    c.in_ok-bar_by.ensures recorded f lines (led i _ (slice_get-get_or c.args.faults.now i _ c.loop-fault-test.true))
    (c.loop-fault.invariant recorded f lines led are)
