use Rattle.std.proofs.Common.{◌∙◌}
use Rattle.std.proofs.lemmas.Option.{slice_get-get_or}
use Rattle.irig_guarding.proofs.OddLemmas.{even_more}
use Rattle.irig_guarding.proofs.odd.even_among.Goals as goal

pub loop-frame-preserved : goal.loop-frame-preserved
loop-frame-preserved c =
    even_more c.args.format c.args.pulses.now c.args.seen.now c.loop-frame.frame-index _ c.loop-frame.even.items _ _ _
    (slice_get-get_or c.args.seen.now c.loop-frame.frame-index _ c.loop-frame-test.true) c.loop-frame.invariant
    c.in_ok-put_if_even.ensures c.is_empty.ensures (c.as_slice.ensures.value ∙ c.in_ok-odd.ensures)
