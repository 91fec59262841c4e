use Rattle.std.proofs.Common.{arith}
use Rattle.irig_stamps.proofs.Words.{why-before, why-exact, why-late}
use Rattle.irig_stamps.proofs.moment.why_of.Goals as goal

pub returns-then-added-taken-clause-why : goal.returns-then-added-taken-clause-why
returns-then-added-taken-clause-why c =
    why-before c.args.format c.args.pulses.now.track.pulses c.args.settings.now c.args.picos c.span-added.result.0 c.span-added.result.1
    c.requires.offset (c.span-added.ensures.added, c.span-added.ensures.taken) (omega (arith, c.if-added-taken.true))

pub returns-then-since-ge-LATE-clause-why : goal.returns-then-since-ge-LATE-clause-why
returns-then-since-ge-LATE-clause-why c =
    why-late c.args.format c.args.pulses.now.track.pulses c.args.settings.now c.args.pulses.now.track.micros c.args.picos
    c.span-added.result.0 c.span-added.result.1 c.why_at.result c.len-count.ensures.track c.requires.offset
    (c.span-added.ensures.added, c.span-added.ensures.taken) (omega (arith, c.if-since-ge-LATE.true))
    (c.why_at.ensures.why c.args.settings.now.century _ _ c.requires.known)

pub returns-clause-why : goal.returns-clause-why
returns-clause-why c =
    why-exact c.args.format c.args.pulses.now.track.pulses c.args.settings.now c.args.picos c.span-added.result.0 c.span-added.result.1 c.why_at-2.result
    c.requires.offset (c.span-added.ensures.added, c.span-added.ensures.taken) (omega (arith, c.if-added-taken.false)) (omega (arith, c.if-since-ge-LATE.false))
    (c.why_at-2.ensures.why c.args.settings.now.century _ _ c.requires.known)
