use Rattle.std.proofs.Common.{◌+◌, sym}
use Rattle.irig_track.proofs.Places.{first_or-drop}
use Rattle.irig_track.proofs.track.Track.free_to.Goals as goal

pub returns-then-at-len-clause-time : goal.returns-then-at-len-clause-time
returns-then-at-len-clause-time c =
    sym (first_or-drop (c.args.self.now.micros + 1) c.args.at c.pulse.result c.args.self.now.pulses c.pulse.ensures.value)
