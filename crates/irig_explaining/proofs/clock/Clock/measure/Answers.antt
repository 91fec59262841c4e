use Rattle.std.proofs.Common.{◌*◌, ◌∙◌, length, ap}
use Rattle.std.proofs.lemmas.List.{length-map}
use Rattle.irig_explaining.proofs.Placing.{length_places}
use Rattle.irig_explaining.proofs.clock.Clock.measure.Goals as goal

pub returns-clause-all : goal.returns-clause-all
returns-clause-all c =
    ap length c.in_ok-intervals.ensures.exact ∙ (length-map _ _ ∙ (ap length c.as_slice-5.ensures.value
    ∙ (ap length c.in_ok-places.ensures ∙ length_places (256 * c.args.interval) c.args.pulses.now)))
