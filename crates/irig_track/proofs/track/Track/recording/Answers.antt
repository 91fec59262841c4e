use Rattle.std.proofs.Common.{◌∙◌, ap, subst, sym}
use Rattle.irig_recording.specs.Recording.{IsRecording}
use Rattle.irig_track.specs.{Edges.edges_of, Track.TrackView}
use Rattle.irig_track.proofs.Recordings.{recording_of}
use Rattle.irig_track.proofs.track.Track.recording.Goals as goal

pub unwrap-requires : goal.unwrap-requires
unwrap-requires c =
    let all = recording_of c.self.inside.micros c.self.inside.pulses.items c.self.invariant in
    let same = c.as_slice.ensures.value ∙ c.in_ok-edges.ensures.exact ∙ sym (ap (λ (t : TrackView). edges_of t.pulses) c.self.view_is) in
    c.in_ok-new.ensures.accepted.1 (subst (IsRecording c.self.inside.micros) (sym same) all)
