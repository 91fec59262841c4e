use Rattle.std.proofs.Common.{ap}
use Rattle.irig_vcd.specs.{Answer.name_of, Code.Header.started_by}
use Rattle.irig_vcd.proofs.Steps.{finishes, last_fault, last_next}
use Rattle.irig_vcd.proofs.header.take_last.Goals as goal

pub returns-in-Ok : goal.returns-in-Ok
returns-in-Ok c = λ h w head scale keeps.
    finishes (name_of c.args.wire) h c.close.new.tokens c.start_of.result _ (last_next h w c.args.tokens.now c.close.new.tokens head c.in-Ok.ensures.exact)
    (c.start_of.ensures h scale keeps)

pub returns-in-Err : goal.returns-in-Err
returns-in-Err c = λ h w head scale keeps.
    ap (started_by (name_of c.args.wire)) (last_fault h w c.args.tokens.now c.in-Err.fault head c.in-Err.ensures.exact)
