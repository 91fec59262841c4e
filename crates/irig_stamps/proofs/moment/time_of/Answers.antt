use Rattle.std.proofs.Common.{arith}
use Rattle.irig_stamps.proofs.Words.{time-before, time-exact, time-late}
use Rattle.irig_stamps.proofs.moment.time_of.Goals as goal

pub returns-then-added-taken-clause-exact : goal.returns-then-added-taken-clause-exact
returns-then-added-taken-clause-exact c =
    time-before c.args.format c.args.pulses.now.track.pulses c.args.settings.now c.args.picos c.span-added.result.0 c.span-added.result.1
    c.requires.offset (c.span-added.ensures.added, c.span-added.ensures.taken) (omega (arith, c.if-added-taken.true))

pub returns-then-since-ge-LATE-clause-exact : goal.returns-then-since-ge-LATE-clause-exact
returns-then-since-ge-LATE-clause-exact c =
    time-late c.args.format c.args.pulses.now.track.pulses c.args.settings.now c.args.pulses.now.track.micros c.args.picos
    c.span-added.result.0 c.span-added.result.1 c.len-count.ensures.track c.requires.offset
    (c.span-added.ensures.added, c.span-added.ensures.taken) (omega (arith, c.if-since-ge-LATE.true))

pub returns-clause-exact : goal.returns-clause-exact
returns-clause-exact c =
    let ps = c.args.pulses.now.track.pulses in
    time-exact c.args.format ps c.args.settings.now c.args.picos c.span-added.result.0 c.span-added.result.1 c.time_at.result
    c.requires.offset (c.span-added.ensures.added, c.span-added.ensures.taken) (omega (arith, c.if-added-taken.false)) (omega (arith, c.if-since-ge-LATE.false))
    (c.time_at.ensures.exact _ _ c.requires.known)
