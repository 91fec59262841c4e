use Rattle.std.proofs.Common.{◌≤◌, length, ap, arith}
use Rattle.irig_index.proofs.{SideLemmas.left_of-put, SideLemmas.kept_right-put, sides.put.Goals.After-put}
use Rattle.irig_index.proofs.sides.put.Goals as goal

-- the gap is among the records
inside : (c : After-put) → c.args.records.now.place ≤ length c.args.records.now.items
inside c =
    let stays = c.in_ok-reserve.ensures.stays in
    omega (arith, ap length stays.0, stays.1, c.gap_at-place.ensures.within, c.gap_at-place.ensures.place)

pub returns-clause-left : goal.returns-clause-left
returns-clause-left c = left_of-put c.args.found c.args.records.now c.reserve.new.self c.put.new.self
    (inside (goal.at.returns-clause-left c).After-put) c.in_ok-reserve.ensures.stays.0 c.in_ok-reserve.ensures.stays.1 c.put.ensures

pub returns-clause-right : goal.returns-clause-right
returns-clause-right c = kept_right-put c.args.found c.args.records.now c.reserve.new.self c.put.new.self
    (inside (goal.at.returns-clause-right c).After-put) c.in_ok-reserve.ensures.stays.0 c.in_ok-reserve.ensures.stays.1 c.put.ensures
