use Rattle.std.proofs.Common.{◌≡◌, ◌∷◌, length, map, ap, subst, ◌∙◌, arith}
use Rattle.irig_journal.specs.Journal.{grouped_of, one_of, told}
use Rattle.irig_journal.specs.{Groups.recorded_over, History.step, Machine.kept, Openings.StandsOnFloor, Sides.steps_on}
use Rattle.irig_journal.proofs.{FloorLemmas.recorded_by, SideLemmas.length-told, SideLemmas.same_steps}
use Rattle.irig_journal.proofs.journal.Journal.record.Goals as goal

pub returns-clause-grouped : goal.returns-clause-grouped
returns-clause-grouped g c after =
    let r = g.R.Reversible in
    let s = r.content c.args.state.now in
    let d = one_of r.delta c.args.change in
    let side = c.self.inside.past in
    let past = map (told r.delta) (steps_on side) in
    let more = map (told r.delta) (steps_on c.turn_new.new.past) in
    let back = (r.turned s d).1 in
    let made = c.reserve_change.ensures in
    let turn : (r.content c.turn_new.new.state, back) ≡ r.turned s d =
    ap (λ x. (x, back)) (rw (← made.state.0, ← made.change) c.turn_new.ensures.state) in
    let law = g.met.R.Reversible.back s d (subst r.is_state made.state.0 c.turn_new.ensures.known) c.requires.applies in
    let longer : more ≡ step back c.args.before ∷ past =
    rw (← made.state.0, ← made.change) c.turn_new.ensures.past
    ∙ ap (λ l. step back c.args.before ∷ map (told r.delta) l) (same_steps side c.reserve_change.new.past made.past) in
    let stands : StandsOnFloor c.self.inside.floor (length past) =
    subst (StandsOnFloor c.self.inside.floor) (omega (arith, length-told r.delta side.changes.items side.entries.items)) c.self.invariant.0 in
    rw c.turn_new.ensures.future
    (recorded_by r.turned c.self.inside.floor s (r.content c.turn_new.new.state) d back c.args.before after past more turn law longer stands
    ∙ ap (λ j. recorded_over (grouped_of r.turned r.delta s c.args.before j) (kept (r.turned s d).0 after)) c.self.view_is)
