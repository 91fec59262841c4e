use Rattle.std.proofs.Common.{sym, subst}
use Rattle.irig_recording.specs.Recording.{IsLongRecording}
use Rattle.irig_track.specs.Track.{IsLongTrack}
use Rattle.irig_track.proofs.Recordings.{long_track_of}
use Rattle.irig_track.proofs.lens.Lens.of.Goals as goal

pub on-requires : goal.on-requires
on-requires c =
    let r = c.args.recording.now in
    subst (λ m. IsLongTrack m c.pulses.result.now.items) (sym c.length.ensures.exact)
    (long_track_of r.micros c.pulses.result.now.items
    (subst (IsLongRecording r.micros) (sym c.pulses.ensures.exact) c.pulses.ensures.lawful))
