use Rattle.std.proofs.Common.{◌≡◌, ◌∙◌, ap, arith, length, sym, subst}
use Rattle.irig_recording.specs.Recording.{IsRecording}
use Rattle.irig_track.specs.{Edges.edges_of, Track.IsTrack}
use Rattle.irig_track.proofs.Recordings.{track_of}
use Rattle.irig_track.proofs.track.Track.new.Goals as goal

pub invariant_of-result : goal.invariant_of-result
invariant_of-result c =
    let ps = c.reserve.new.self.items in
    let stay : ps ≡ c.into_pulses-pulses.result.items = c.reserve.ensures.stays.0 in
    let same : edges_of ps ≡ c.args.recording.edges = ap edges_of stay ∙ c.into_pulses-pulses.ensures.exact in
    subst (λ m. IsTrack m ps) (sym c.length-micros.ensures.exact)
    (track_of c.args.recording.micros ps (subst (IsRecording c.args.recording.micros) (sym same) c.length-micros.ensures.lawful))

pub returns-clause-edges : goal.returns-clause-edges
returns-clause-edges c = ap edges_of c.reserve.ensures.stays.0 ∙ c.into_pulses-pulses.ensures.exact

pub returns-clause-spare : goal.returns-clause-spare
returns-clause-spare c = omega (arith, c.in_ok-reserve.ensures.room, ap length c.reserve.ensures.stays.0)
