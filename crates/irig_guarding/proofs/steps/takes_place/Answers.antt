use Rattle.irig_guarding.proofs.StepsLemmas.{place_there}
use Rattle.irig_guarding.proofs.steps.takes_place.Goals as goal

pub returns : goal.returns
returns c = λ so.
    place_there c.args.session.now.state.format c.current_format.result c.args.session.now.state.pulses _ c.args.time _ _ c.current_format.ensures
    c.pulse.ensures c.is_in_place.ensures so
