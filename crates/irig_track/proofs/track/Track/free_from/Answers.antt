use Rattle.std.proofs.Common.{◌≡◌, ◌-◌, ◌∙◌, ap, sym, suc, take, arith}
use Rattle.irig_track.specs.{Edges.edges_of, Free.following}
use Rattle.irig_track.proofs.PulsesBetween.{following-last}
use Rattle.irig_track.proofs.track.Track.free_from.Goals as goal

pub returns-else-at-eq0-clause-time : goal.returns-else-at-eq0-clause-time
returns-else-at-eq0-clause-time c =
    let up : suc (c.args.at - 1) ≡ c.args.at = omega arith in
    sym (following-last 0 (c.args.at - 1) c.pulse.result c.args.self.now.pulses c.pulse.ensures.value)
    ∙ ap (λ k. following 0 (edges_of (take k c.args.self.now.pulses))) up
