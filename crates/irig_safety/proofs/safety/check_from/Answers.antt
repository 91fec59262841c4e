use Rattle.std.proofs.Common.{◌∙◌, sym}
use Rattle.std.proofs.lemmas.Option.{slice_get-get_or}
use Rattle.irig_safety.proofs.SafetyLemmas.{judge_end, judge_left, judge_none}
use Rattle.irig_safety.proofs.safety.check_from.Goals as goal

pub returns-in-Err-clause-fault : goal.returns-in-Err-clause-fault
returns-in-Err-clause-fault c =
    judge_none c.args.format c.args.others.now c.args.old.now c.args.new.now c.loop-frame.kept c.loop-frame.frame-index _ _
    (slice_get-get_or c.args.new.now c.loop-frame.frame-index _ c.loop-frame-test.true) c.in-Err.ensures.fault c.loop-frame.invariant

pub returns-in-Some-clause-fault : goal.returns-in-Some-clause-fault
returns-in-Some-clause-fault c =
    judge_left c.args.format c.args.others.now c.args.old.now c.args.new.now c.loop-frame.kept c.loop-frame.frame-index c.in-Some.former c.loop-frame-test.false
    (sym c.frame_at.ensures ∙ c.in-Some.is) c.loop-frame.invariant

pub returns-in-None-clause-safe : goal.returns-in-None-clause-safe
returns-in-None-clause-safe c =
    judge_end c.args.format c.args.others.now c.args.old.now c.args.new.now c.loop-frame.kept c.loop-frame.frame-index c.loop-frame-test.false
    (sym c.frame_at.ensures ∙ c.in-None.is) c.loop-frame.invariant
