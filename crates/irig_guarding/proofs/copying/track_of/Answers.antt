use Rattle.std.proofs.Common.{◌∙◌}
use Rattle.irig_track.proofs.Sets.{edges_of-inj}
use Rattle.irig_guarding.proofs.copying.track_of.Goals as goal

pub returns : goal.returns
returns c = edges_of-inj c.in_ok-track.track.pulses c.args.session.now.state.pulses (c.in_ok-track.ensures.edges ∙ c.in_ok-recording.ensures)
