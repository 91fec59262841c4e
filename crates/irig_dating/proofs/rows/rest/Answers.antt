use Rattle.std.proofs.Common.{◌≡◌, ◌-◌, length, arith}
use Rattle.irig_dating.proofs.Growing.{row_at}
use Rattle.irig_dating.proofs.rows.rest.Goals as goal

pub cheapest_way-requires-clause-row : goal.cheapest_way-requires-clause-row
cheapest_way-requires-clause-row g c =
    let rows = c.args.rows.now in
    let same : c.args.bits - 1 - (length rows - 1) ≡ c.args.bit = omega (arith, c.requires.all) in
    rw c.as_slice-row.ensures.value
    (row_at (g.C.Costs.prices c.args.costs.now) c.args.bits rows c.args.bit (length rows - 1) c.index-rows-rows.result c.requires.rows
    (omega (arith, c.requires.all)) same c.index-rows-rows.is)
