use Rattle.std.proofs.Common.{ap, ◌∙◌}
use Rattle.irig_recording.specs.FileText.{begins_high}
use Rattle.irig_track.specs.{Edges.edges_of, Track.TrackView}
use Rattle.irig_recording.proofs.WrittenText.{first_high}
use Rattle.irig_track.proofs.track.Track.begins_high.Goals as goal

pub returns-then-len-gt0-clause-high : goal.returns-then-len-gt0-clause-high
returns-then-len-gt0-clause-high c = first_high c.get.result c.self.inside.pulses.items c.get.ensures
    ∙ ap (λ (v : TrackView). begins_high (edges_of v.pulses)) c.self.view_is
