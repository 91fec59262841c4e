use Rattle.std.proofs.Common.{arith, ◌+◌, ◌≤◌, ◌^◌, length}
use Rattle.irig_track.proofs.Allowed.{splice_stands, stands_splice}
use Rattle.irig_track.proofs.track.Track.can_splice.Goals as goal

pub returns : goal.returns
returns c =
    let ps = c.args.self.now.pulses in let put = c.args.put.now.items in
    let there : c.args.at + c.args.count ≤ length ps = omega arith in
    let few : length put + length ps ≤ 2 ^ 22 + c.args.count = omega arith in (
      λ e. stands_splice c.args.self.now.micros c.args.at c.args.count c.free_from.result c.free_to.result put ps there c.len-len.ensures.track
          c.free_from.ensures.time c.free_to.ensures.time few (c.stands.ensures.0 e),
      λ can. c.stands.ensures.1 (splice_stands c.args.self.now.micros c.args.at c.args.count c.free_from.result c.free_to.result put ps there
          c.len-len.ensures.track c.free_from.ensures.time c.free_to.ensures.time can),
    )
