use Rattle.std.proofs.Common.{◌∙◌, sym}
use Rattle.std.proofs.lemmas.Option.{slice_get-get_or}
use Rattle.irig_safety.proofs.FaultLemmas.{spoiled_so}
use Rattle.irig_safety.proofs.SafetyLemmas.{find_end, find_left, find_none}
use Rattle.irig_safety.proofs.unspoiled.check_unspoiled.Goals as goal

pub returns-in-Err-clause-fault : goal.returns-in-Err-clause-fault
returns-in-Err-clause-fault c =
    find_none c.args.last.now c.args.new.now c.loop-frame.found c.loop-frame.frame-index _ _
    (slice_get-get_or c.args.new.now c.loop-frame.frame-index _ c.loop-frame-test.true) c.in-Err.ensures.fault c.loop-frame.invariant

pub returns-in-Err-clause-spoiled : goal.returns-in-Err-clause-spoiled
returns-in-Err-clause-spoiled c = spoiled_so c.args.last.now c.args.new.now _
    (find_none c.args.last.now c.args.new.now c.loop-frame.found c.loop-frame.frame-index _ _
    (slice_get-get_or c.args.new.now c.loop-frame.frame-index _ c.loop-frame-test.true) c.in-Err.ensures.fault c.loop-frame.invariant)

pub returns-in-Some-clause-fault : goal.returns-in-Some-clause-fault
returns-in-Some-clause-fault c =
    find_left c.args.last.now c.args.new.now c.loop-frame.found c.loop-frame.frame-index c.in-Some.former c.loop-frame-test.false
    (sym c.frame_at.ensures ∙ c.in-Some.is) c.loop-frame.invariant

pub returns-in-Some-clause-spoiled : goal.returns-in-Some-clause-spoiled
returns-in-Some-clause-spoiled c = spoiled_so c.args.last.now c.args.new.now _
    (find_left c.args.last.now c.args.new.now c.loop-frame.found c.loop-frame.frame-index c.in-Some.former c.loop-frame-test.false
    (sym c.frame_at.ensures ∙ c.in-Some.is) c.loop-frame.invariant)

pub returns-in-None-clause-kept : goal.returns-in-None-clause-kept
returns-in-None-clause-kept c =
    find_end c.args.last.now c.args.new.now c.loop-frame.found c.loop-frame.frame-index c.loop-frame-test.false
    (sym c.frame_at.ensures ∙ c.in-None.is) c.loop-frame.invariant
