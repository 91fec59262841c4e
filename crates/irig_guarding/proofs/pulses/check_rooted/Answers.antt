use Rattle.std.proofs.Common.{◌≡◌, ◌∙◌, false, sym, true}
use Rattle.std.proofs.lemmas.Option.{slice_get-get_or}
use Rattle.irig_guarding.proofs.PulseLemmas.{rooted_more, rooted_not}
use Rattle.irig_guarding.proofs.pulses.check_rooted.Goals as goal

pub returns-then-not-is_rooted-clause-unrooted : goal.returns-then-not-is_rooted-clause-unrooted
returns-then-not-is_rooted-clause-unrooted c =
    (rooted_not c.args.opened.now c.args.session.now.state c.args.frames.now c.loop-frame.frame-index _
    (slice_get-get_or c.args.frames.now c.loop-frame.frame-index _ c.loop-frame-test.true)
    (λ is. let bad : false ≡ true = sym c.if-not-is_rooted.true ∙ c.is_rooted.ensures.1 is in cc) c.loop-frame.invariant).0

pub returns-then-not-is_rooted-clause-fault : goal.returns-then-not-is_rooted-clause-fault
returns-then-not-is_rooted-clause-fault c =
    (rooted_not c.args.opened.now c.args.session.now.state c.args.frames.now c.loop-frame.frame-index _
    (slice_get-get_or c.args.frames.now c.loop-frame.frame-index _ c.loop-frame-test.true)
    (λ is. let bad : false ≡ true = sym c.if-not-is_rooted.true ∙ c.is_rooted.ensures.1 is in cc) c.loop-frame.invariant).1

pub loop-frame-preserved : goal.loop-frame-preserved
loop-frame-preserved c =
    rooted_more c.args.opened.now c.args.session.now.state c.args.frames.now c.loop-frame.frame-index _
    (slice_get-get_or c.args.frames.now c.loop-frame.frame-index _ c.loop-frame-test.true)
    (c.is_rooted.ensures.0 c.if-not-is_rooted.false) c.loop-frame.invariant
