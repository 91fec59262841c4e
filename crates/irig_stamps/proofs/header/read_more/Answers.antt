use Rattle.std.proofs.Common.{rules, ◌<◌, ◌≤◌, length, take, length-take, arith}
use Rattle.irig_stamps.specs.declared.header.Header.{Header}
use Rattle.irig_stamps.proofs.HeaderReads.{at-end, failed, has-read, no-room, reads-on, too-long-a-header}
use Rattle.irig_stamps.proofs.header.read_more.Goals as goal

pub returns-in_default : goal.returns-in_default
returns-in_default g c start h = failed c.args.settings.now start _ _ c.args.header.now h c.in_default.ensures.bytes

pub returns-then-count-eq0 : goal.returns-then-count-eq0
returns-then-count-eq0 g c start h =
    let none = rw c.if-count-eq0.true at c.in-Ok.ensures.bytes.0 in
    let room : 0 < length c.read_part.new.buffer = search rules in
    at-end c.args.settings.now start _ _ c.args.header.now h none (c.in-Ok.ensures.bytes.1 c.if-count-eq0.true room)

pub returns-in_default-extend_from_slice : goal.returns-in_default-extend_from_slice
returns-in_default-extend_from_slice g c start h =
    no-room c.args.settings.now start _ _ c.args.header.now (take c.in-Ok.count c.read_part.new.buffer) h c.in-Ok.ensures.bytes.0

pub returns-then-header-settings : goal.returns-then-header-settings
returns-then-header-settings g c start h =
    let part = take c.in-Ok.count c.read_part.new.buffer in
    let is : Header = record { bytes = c.extend_from_slice.new.self; ended = c.saturating_add-header.result } in
    let room : length part ≤ 32768 = omega (arith, length-take c.in-Ok.count c.read_part.new.buffer, c.read_part.array_long) in
    has-read c.args.settings.now start _ _ c.args.header.now is part c.newlines.result h c.in-Ok.ensures.bytes.0
    c.in-Ok-extend_from_slice.ensures.items c.newlines.ensures.count room c.saturating_add-header.ensures (omega (arith, c.if-header-settings.true))

pub returns-then-len-ge-HEADER_LIMIT : goal.returns-then-len-ge-HEADER_LIMIT
returns-then-len-ge-HEADER_LIMIT g c start h =
    let part = take c.in-Ok.count c.read_part.new.buffer in
    let is : Header = record { bytes = c.extend_from_slice.new.self; ended = c.saturating_add-header.result } in
    let room : length part ≤ 32768 = omega (arith, length-take c.in-Ok.count c.read_part.new.buffer, c.read_part.array_long) in
    too-long-a-header c.args.settings.now start _ _ c.args.header.now is part c.newlines.result h c.in-Ok.ensures.bytes.0
    c.in-Ok-extend_from_slice.ensures.items c.newlines.ensures.count room c.saturating_add-header.ensures (omega (arith, c.if-header-settings.false))
    (omega (arith, c.if-len-ge-HEADER_LIMIT.true))

pub returns : goal.returns
returns g c start h =
    let part = take c.in-Ok.count c.read_part.new.buffer in
    let is : Header = record { bytes = c.extend_from_slice.new.self; ended = c.saturating_add-header.result } in
    let room : length part ≤ 32768 = omega (arith, length-take c.in-Ok.count c.read_part.new.buffer, c.read_part.array_long) in
    reads-on c.args.settings.now start _ _ c.args.header.now is part c.newlines.result h c.in-Ok.ensures.bytes.0
    c.in-Ok-extend_from_slice.ensures.items c.newlines.ensures.count room c.saturating_add-header.ensures (omega (arith, c.if-header-settings.false))
    (omega (arith, c.if-len-ge-HEADER_LIMIT.false))
