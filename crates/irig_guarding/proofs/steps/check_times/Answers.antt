use Rattle.std.proofs.Common.{◌≡◌, ◌∙◌, arith, false, sym, true}
use Rattle.std.proofs.lemmas.Option.{slice_get-get_or}
use Rattle.irig_guarding.proofs.StepsLemmas.{in_place_end, in_place_more, in_place_none, in_place_not}
use Rattle.irig_guarding.proofs.steps.check_times.Goals as goal

pub loop-time-init : goal.loop-time-init
loop-time-init c = in_place_none c.args.session.now.state c.args.times.now

pub returns-then-not-has_place-clause-gone : goal.returns-then-not-has_place-clause-gone
returns-then-not-has_place-clause-gone c =
    (in_place_not c.args.session.now.state c.args.times.now c.loop-time.time-index _
    (slice_get-get_or c.args.times.now c.loop-time.time-index _ c.loop-time-test.true)
    (λ is. let bad : false ≡ true = sym c.if-not-has_place.true ∙ (c.has_place.ensures ∙ is) in cc) c.loop-time.invariant).0

pub returns-then-not-has_place-clause-fault : goal.returns-then-not-has_place-clause-fault
returns-then-not-has_place-clause-fault c =
    (in_place_not c.args.session.now.state c.args.times.now c.loop-time.time-index _
    (slice_get-get_or c.args.times.now c.loop-time.time-index _ c.loop-time-test.true)
    (λ is. let bad : false ≡ true = sym c.if-not-has_place.true ∙ (c.has_place.ensures ∙ is) in cc) c.loop-time.invariant).1

pub loop-time-preserved : goal.loop-time-preserved
loop-time-preserved c =
    in_place_more c.args.session.now.state c.args.times.now c.loop-time.time-index _
    (slice_get-get_or c.args.times.now c.loop-time.time-index _ c.loop-time-test.true)
    (sym c.has_place.ensures ∙ c.if-not-has_place.false) c.loop-time.invariant

pub returns-clause-stay : goal.returns-clause-stay
returns-clause-stay c =
    in_place_end c.args.session.now.state c.args.times.now c.loop-time.time-index (omega (arith, c.loop-time-test.false)) c.loop-time.invariant
