use Rattle.std.proofs.lemmas.Option.{slice_get-get_or}
use Rattle.irig_safety.specs.Original.{with_frames}
use Rattle.irig_guarding.proofs.PulseLemmas.{stand_end, stand_kept, stand_none, stray_all}
use Rattle.irig_guarding.proofs.pulses.check_rises.Goals as goal

pub loop-frame-preserved-then-is_unmoved : goal.loop-frame-preserved-then-is_unmoved
loop-frame-preserved-then-is_unmoved c =
    stand_kept (with_frames c.args.former.now c.args.opened.now) c.args.session.now.state c.args.frames.now c.loop-frame.passed c.loop-frame.frame-index _
    (slice_get-get_or c.args.frames.now c.loop-frame.frame-index _ c.loop-frame-test.true) (c.is_unmoved.ensures.same c.if-is_unmoved.true)
    (c.requires _ _ (c.is_unmoved.ensures.known c.if-is_unmoved.true)) c.loop-frame.invariant

pub returns-in-Err-clause-stray : goal.returns-in-Err-clause-stray
returns-in-Err-clause-stray c =
    stray_all (with_frames c.args.former.now c.args.opened.now) c.args.session.now.state c.args.frames.now c.in-Err.why
    (stand_none (with_frames c.args.former.now c.args.opened.now) c.args.session.now.state c.args.frames.now c.loop-frame.passed
    c.loop-frame.frame-index _ c.in-Err.why
    (slice_get-get_or c.args.frames.now c.loop-frame.frame-index _ c.loop-frame-test.true) c.in-Err.ensures.fault c.loop-frame.invariant)

pub returns-in-Err-clause-fault : goal.returns-in-Err-clause-fault
returns-in-Err-clause-fault c =
    stand_none (with_frames c.args.former.now c.args.opened.now) c.args.session.now.state c.args.frames.now c.loop-frame.passed
    c.loop-frame.frame-index _ c.in-Err.why
    (slice_get-get_or c.args.frames.now c.loop-frame.frame-index _ c.loop-frame-test.true) c.in-Err.ensures.fault c.loop-frame.invariant

pub returns-clause-stand : goal.returns-clause-stand
returns-clause-stand c =
    stand_end (with_frames c.args.former.now c.args.opened.now) c.args.session.now.state c.args.frames.now c.loop-frame.passed
    c.loop-frame.frame-index c.loop-frame-test.false
    c.loop-frame.invariant
