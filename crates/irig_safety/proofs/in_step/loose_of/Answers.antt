use Rattle.std.proofs.Common.{◌≡◌, ◌∙◌, [], ap, arith, sym}
use Rattle.std.proofs.lemmas.Option.{slice_get-get_or}
use Rattle.irig_safety.proofs.StepLemmas.{loose_all, loose_more}
use Rattle.irig_safety.proofs.in_step.loose_of.Goals as goal

pub loop-marker-preserved : goal.loop-marker-preserved
loop-marker-preserved c =
    loose_more c.args.format c.args.pulses.now c.args.markers.now c.loop-marker.marker-index _ c.loop-marker.from _ c.loop-marker.loose.items _
    (slice_get-get_or c.args.markers.now c.loop-marker.marker-index _ c.loop-marker-test.true)
    c.in_ok-add_steps.ensures c.after_frame-from.ensures c.loop-marker.invariant
