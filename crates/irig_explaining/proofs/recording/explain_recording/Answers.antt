use Rattle.std.proofs.Common.{◌*◌}
use Rattle.irig_explaining.proofs.Cheapest.{is_cheapest}
use Rattle.irig_explaining.proofs.recording.explain_recording.Goals as goal

pub returns : goal.returns
returns c =
    let p = c.new-prices.result in
    is_cheapest (256 * c.args.interval) c.args.pulses.now c.args.roles.now p c.rises.result c.explain.result c.new-prices.ensures.pulses
    c.new-prices.ensures.roles (rw c.new-prices.ensures.clock c.in_ok-clock.ensures.exact) c.rises.ensures c.explain.ensures.possible
    c.explain.ensures.exact c.explain.ensures.least
