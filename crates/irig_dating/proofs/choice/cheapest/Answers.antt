use Rattle.std.proofs.Common.{◌≡◌, ◌-◌, arith}
use Rattle.irig_dating.specs.Rows.{IsRow}
use Rattle.irig_dating.proofs.Growing.{row_at}
use Rattle.irig_dating.proofs.Reading.{all_read, nothing_read, read_more}
use Rattle.irig_dating.proofs.choice.cheapest.Goals as goal

pub loop-bit-init : goal.loop-bit-init
loop-bit-init g c =
    rw c.new-candidates.ensures.items (nothing_read (g.C.Costs.prices c.args.costs.now) c.args.bits c.rest-cost.result c.rest-cost.ensures)

pub cheapest_way-way-requires-clause-row : goal.cheapest_way-way-requires-clause-row
cheapest_way-way-requires-clause-row g c =
    let bits = c.args.bits in let t = c.loop-bit.bit in
    let same : bits - 1 - (bits - 1 - t) ≡ t = omega arith in
    rw c.as_slice-row.ensures.value
    (row_at (g.C.Costs.prices c.args.costs.now) bits c.args.rows.now t (bits - 1 - t) c.index-rows-bits.result c.requires.rows
    (omega (arith, c.requires.all)) same c.index-rows-bits.is)

pub loop-bit-preserved : goal.loop-bit-preserved
loop-bit-preserved g c =
    let p = g.C.Costs.prices c.args.costs.now in let bits = c.args.bits in let t = c.loop-bit.bit in
    let same : bits - 1 - (bits - 1 - t) ≡ t = omega arith in
    let row : IsRow p bits t c.as_slice-row.result.now =
    rw c.as_slice-row.ensures.value
    (row_at p bits c.args.rows.now t (bits - 1 - t) c.index-rows-bits.result c.requires.rows (omega (arith, c.requires.all)) same
    c.index-rows-bits.is) in
    rw c.in_ok-push.ensures.items
    (read_more p bits t c.loop-bit.before c.loop-bit.candidates.items c.as_slice-row.result.now c.cheapest_way-way.result row
    c.cheapest_way-way.ensures c.loop-bit.invariant)

pub returns-clause-possible : goal.returns-clause-possible
returns-clause-possible g c =
    (all_read (g.C.Costs.prices c.args.costs.now) c.args.bits c.loop-bit.bit c.loop-bit.before c.loop-bit.candidates.items
    c.rest-cost.result (omega arith) c.loop-bit.invariant c.rest-cost.ensures).0

pub returns-clause-exact : goal.returns-clause-exact
returns-clause-exact g c =
    (all_read (g.C.Costs.prices c.args.costs.now) c.args.bits c.loop-bit.bit c.loop-bit.before c.loop-bit.candidates.items
    c.rest-cost.result (omega arith) c.loop-bit.invariant c.rest-cost.ensures).1

pub returns-clause-least : goal.returns-clause-least
returns-clause-least g c = λ others h. c.rest-cost.ensures.low others (let n = h.0 in omega arith, h.1)
