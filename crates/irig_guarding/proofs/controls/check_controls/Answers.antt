use Rattle.std.proofs.lemmas.Option.{slice_get-get_or}
use Rattle.irig_safety.specs.Original.{with_frames}
use Rattle.irig_guarding.proofs.ControlLemmas.{judge_end, judge_kept, judge_none, unborne_all}
use Rattle.irig_guarding.proofs.controls.check_controls.Goals as goal

pub loop-frame-preserved-then-is_as_before : goal.loop-frame-preserved-then-is_as_before
loop-frame-preserved-then-is_as_before c =
    judge_kept (with_frames c.args.former.now c.args.opened.now) c.args.session.now.state c.args.frames.now c.loop-frame.passed c.loop-frame.frame-index _
    (slice_get-get_or c.args.frames.now c.loop-frame.frame-index _ c.loop-frame-test.true) (c.is_as_before.ensures c.if-is_as_before.true)
    c.loop-frame.invariant

pub returns-in-Err-clause-unborne : goal.returns-in-Err-clause-unborne
returns-in-Err-clause-unborne c =
    unborne_all (with_frames c.args.former.now c.args.opened.now) c.args.session.now.state c.args.frames.now c.in-Err.why
    (judge_none
    (with_frames c.args.former.now c.args.opened.now) c.args.session.now.state c.args.frames.now c.loop-frame.passed c.loop-frame.frame-index _ c.in-Err.why
    (slice_get-get_or c.args.frames.now c.loop-frame.frame-index _ c.loop-frame-test.true) c.in-Err.ensures.fault c.loop-frame.invariant)

pub returns-in-Err-clause-fault : goal.returns-in-Err-clause-fault
returns-in-Err-clause-fault c =
    judge_none
    (with_frames c.args.former.now c.args.opened.now) c.args.session.now.state c.args.frames.now c.loop-frame.passed c.loop-frame.frame-index _ c.in-Err.why
    (slice_get-get_or c.args.frames.now c.loop-frame.frame-index _ c.loop-frame-test.true) c.in-Err.ensures.fault c.loop-frame.invariant

pub returns-clause-borne : goal.returns-clause-borne
returns-clause-borne c =
    judge_end (with_frames c.args.former.now c.args.opened.now) c.args.session.now.state c.args.frames.now c.loop-frame.passed c.loop-frame.frame-index
    c.loop-frame-test.false
    c.loop-frame.invariant
