use Rattle.std.proofs.Common.{◌∙◌, ap}
use Rattle.irig_track.specs.Looks.{LensView}
use Rattle.irig_index.specs.Frames.{frames}
use Rattle.irig_comments.proofs.FramedViews.{framed-is}
use Rattle.irig_comments.proofs.framed.Framed.new.Goals as goal

pub returns : goal.returns
returns c =
    framed-is c.args.format c.args.recording c.in_ok-recording.recording c.in_ok-track.track.micros c.in_ok-track.track.pulses c.in_ok-index.index.records
    c.in_ok-track.ensures.length c.in_ok-track.ensures.edges c.in_ok-recording.ensures.exact
    (c.in_ok-index.ensures.frames ∙ ap (λ (l : LensView). frames c.args.format l.track.pulses) c.lens.ensures)
