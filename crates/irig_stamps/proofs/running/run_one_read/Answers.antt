use Rattle.std.proofs.Common.{rules, ◌<◌, length}
use Rattle.irig_stamps.proofs.RunSteps.{read-failed, read-nothing}
use Rattle.irig_stamps.proofs.running.run_one_read.Goals as goal

pub returns-in_default-clause-step : goal.returns-in_default-clause-step
returns-in_default-clause-step g c start from h = read-failed _ _ _ start _ _ from _ _ _ _ h c.in_default.ensures.bytes

pub returns-then-count-eq0-clause-step : goal.returns-then-count-eq0-clause-step
returns-then-count-eq0-clause-step g c start from h =
    let none = rw c.if-count-eq0.true at c.in-Ok.ensures.bytes.0 in
    let room : 0 < length c.read_part.new.buffer = search rules in
    c.end_last_line.ensures.step start _ from (c.in-Ok.ensures.bytes.1 c.if-count-eq0.true room) (read-nothing _ _ _ start _ _ from _ _ _ _ h none)

pub returns-clause-step : goal.returns-clause-step
returns-clause-step g c start from h = c.put_part.ensures.step start _ _ from h c.in-Ok.ensures.bytes.0
