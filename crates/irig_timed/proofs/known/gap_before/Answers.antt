use Rattle.std.proofs.Common.{sym, subst}
use Rattle.irig_times.specs.FrameLooks.{MarkersRise}
use Rattle.irig_times.proofs.Records.{frames-rise}
use Rattle.irig_timed.proofs.known.gap_before.Goals as goal

pub has_doubtful-doubt-requires-clause-order : goal.has_doubtful-doubt-requires-clause-order
has_doubtful-doubt-requires-clause-order c =
    subst MarkersRise (sym c.requires.records) (frames-rise c.args.format c.args.pulses.now.track.pulses)
