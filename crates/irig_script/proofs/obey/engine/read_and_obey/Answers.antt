use Rattle.std.proofs.Common.{rules, ◌≡◌, ◌≤◌, ◌<◌, take, length, arith, length-take}
use Rattle.irig_script.proofs.ObeyLemmas.Reads.{read_failed, read_obeyed, read_last, read_broke}
use Rattle.irig_script.proofs.obey.engine.read_and_obey.Goals as goal

pub returns-in_default-clause-goes_on : goal.returns-in_default-clause-goes_on
returns-in_default-clause-goes_on g c = λ reads start from first few h. read_failed reads start _ _ from _ _ first _ _ few h c.in_default.ensures.bytes

pub returns-in_default-obey_bytes-clause-goes_on : goal.returns-in_default-obey_bytes-clause-goes_on
returns-in_default-obey_bytes-clause-goes_on g c = λ reads start from first few h.
    let n = c.in-Ok.count in
    let part = take n c.read_part.new.buffer in
    let whole : length c.read_part.new.buffer ≡ 4096 = search rules in
    let short : length part ≤ 4096 = omega (arith, whole, length-take n c.read_part.new.buffer) in
    let room : 0 < length c.read_part.new.buffer = search rules in
    read_broke reads start _ _ from _ _ _ first _ _ _ part _ few h c.in-Ok.ensures.bytes.0
    (λ e. c.in-Ok.ensures.bytes.1 (omega (arith, e, length-take n c.read_part.new.buffer, c.in-Ok.ensures.bound)) room) short c.bytes_to_obey-bytes.ensures
    c.in_default-obey_bytes.ensures.err

pub returns-then-count-eq0-clause-goes_on : goal.returns-then-count-eq0-clause-goes_on
returns-then-count-eq0-clause-goes_on g c = λ reads start from first few h.
    let none = rw c.if-count-eq0.true at c.in-Ok.ensures.bytes.0 in
    let room : 0 < length c.read_part.new.buffer = search rules in
    let bytes = rw c.if-count-eq0.true at c.bytes_to_obey-bytes.ensures in
    read_last _ reads start _ _ from _ _ _ _ first _ _ _ _ _ few h none (c.in-Ok.ensures.bytes.1 c.if-count-eq0.true room) bytes c.in-Ok-obey_bytes.ensures.ok

pub returns-clause-goes_on : goal.returns-clause-goes_on
returns-clause-goes_on g c = λ reads start from first few h.
    let n = c.in-Ok.count in
    let part = take n c.read_part.new.buffer in
    let whole : length c.read_part.new.buffer ≡ 4096 = search rules in
    let short : length part ≤ 4096 = omega (arith, whole, length-take n c.read_part.new.buffer) in
    let some : 0 < length part = omega (arith, length-take n c.read_part.new.buffer, c.in-Ok.ensures.bound, c.if-count-eq0.false) in
    read_obeyed _ reads start _ _ from _ _ _ _ first _ _ _ _ part _ few h c.in-Ok.ensures.bytes.0 some short c.bytes_to_obey-bytes.ensures
    c.in-Ok-obey_bytes.ensures.ok
