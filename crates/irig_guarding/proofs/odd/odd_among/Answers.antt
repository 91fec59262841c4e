use Rattle.std.proofs.Common.{◌∙◌, ◌++◌, ap}
use Rattle.std.proofs.lemmas.Option.{slice_get-get_or}
use Rattle.irig_guarding.specs.Reading.{odd_by}
use Rattle.irig_guarding.proofs.OddLemmas.{flat_more}
use Rattle.irig_guarding.proofs.odd.odd_among.Goals as goal

pub loop-frame-preserved : goal.loop-frame-preserved
loop-frame-preserved c =
    flat_more (odd_by c.args.format c.args.pulses.now) c.args.seen.now c.loop-frame.frame-index _ c.loop-frame.all.items _
    (slice_get-get_or c.args.seen.now c.loop-frame.frame-index _ c.loop-frame-test.true) c.loop-frame.invariant
    (c.in_ok-extend_from_slice.ensures.items ∙ ap (λ l. c.loop-frame.all.items ++ l) (c.as_slice.ensures.value ∙ c.in_ok-odd.ensures))
