use Rattle.std.proofs.Common.{rules}
use Rattle.irig_edit.specs.{Session.Limits.IsWork, Session.Work.work_at, State.Places.places_in}
use Rattle.irig_edit.proofs.session.session.Session.open.Goals as goal

pub invariant_of-result : goal.invariant_of-result
invariant_of-result c =
    let p = c.in_ok-present.present in
    let is : IsWork (work_at p.state c.len-cursor.result c.new.result) = search rules in
    (is, c.new.ensures.ready (places_in p) p.state)
