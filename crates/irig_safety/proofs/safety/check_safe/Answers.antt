use Rattle.irig_safety.proofs.FaultLemmas.{unsafe_result}
use Rattle.irig_safety.proofs.safety.check_safe.Goals as goal

pub returns-then-not-is_empty-clause-unsafe_so : goal.returns-then-not-is_empty-clause-unsafe_so
returns-then-not-is_empty-clause-unsafe_so c =
    unsafe_result c.args.format c.args.others.now c.args.old.now c.args.new.now _ c.check_from.result c.is_empty.ensures c.if-not-is_empty.true
    c.check_from.ensures.fault
