use Rattle.std.proofs.Common.{◌<◌, arith}
use Rattle.irig_vcd.specs.Code.Lanes.{is_low}
use Rattle.irig_vcd.proofs.{DarkLanes.all_dark, LaneCounts.counted_few, LaneCounts.counted_fails}
use Rattle.irig_vcd.proofs.apart.dark_count.Goals as goal

pub returns-clause-few : goal.returns-clause-few
returns-clause-few c =
    let some : 0 < c.spaces-found.result = omega (arith, c.if-found-eq0.false) in
    counted_few is_low c.args.source.now c.args.from c.spaces-found.result c.requires c.spaces-found.ensures some

pub returns-clause-dark : goal.returns-clause-dark
returns-clause-dark c =
    let some : 0 < c.spaces-found.result = omega (arith, c.if-found-eq0.false) in
    counted_fails is_low c.args.source.now c.args.from c.spaces-found.result c.requires c.spaces-found.ensures some

pub returns-then-found-eq0-clause-dark : goal.returns-then-found-eq0-clause-dark
returns-then-found-eq0-clause-dark c = all_dark c.args.source.now c.args.from c.spaces-found.result c.requires c.spaces-found.ensures c.if-found-eq0.true
