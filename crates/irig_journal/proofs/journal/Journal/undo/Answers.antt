use Rattle.std.proofs.Common.{rules, ◌≡◌, ◌<◌, [], map, length, ap, sym, subst, ◌∙◌, arith}
use Rattle.irig_journal.specs.{Groups.undone_over, Journal.grouped_of, Journal.past_of, Journal.told, Openings.AtFloor, Sides.steps_on}
use Rattle.irig_journal.proofs.FloorLemmas.{floor_in, floor_kept, not_at_floor, stands_below, stepped_back-parts, undone_over_by}
use Rattle.irig_journal.proofs.SideLemmas.{length-told}
use Rattle.irig_journal.proofs.journal.Journal.undo.Goals as goal

pub returns-then-is_at_floor : goal.returns-then-is_at_floor
returns-then-is_at_floor g c =
    let d = g.R.Reversible.delta in
    let side = c.self.inside.past in
    let long = ap (λ j. length (past_of d j)) (sym c.self.view_is) ∙ length-told d side.changes.items side.entries.items in
    let some : 0 < c.len.result = search rules in
    let none : past_of d c.args.self.now ≡ [] → ⊥ = λ e. omega (arith, long, some, c.len.ensures, ap length e) in
    let at : AtFloor c.self.inside.floor c.len.result = search rules in
    let low : AtFloor c.args.self.now.floor (length (past_of d c.args.self.now)) =
    subst (λ o. AtFloor o (length (past_of d c.args.self.now))) (ap floor_in c.self.view_is)
    (subst (AtFloor c.self.inside.floor) (omega (arith, long, c.len.ensures)) at) in
    record {
      step = search rules;
      grouped = search rules;
      nothing = search (rules, none);
      at_floor = search (rules, none, low);
      faults = search rules;
      err = search rules;
      ready = search rules;
    }

pub returns-clause-at_floor : goal.returns-clause-at_floor
returns-clause-at_floor g c =
    let d = g.R.Reversible.delta in
    let side = c.self.inside.past in
    let long = ap (λ j. length (past_of d j)) (sym c.self.view_is) ∙ length-told d side.changes.items side.entries.items in
    let below : AtFloor c.self.inside.floor c.len.result → ⊥ = search rules in
    let above : AtFloor c.args.self.now.floor (length (past_of d c.args.self.now)) → ⊥ =
    λ at. below (subst (AtFloor c.self.inside.floor) (omega (arith, long, c.len.ensures))
    (subst (λ o. AtFloor o (length (past_of d c.args.self.now))) (sym (ap floor_in c.self.view_is)) at)) in
    search (rules, above)

pub returns-clause-grouped : goal.returns-clause-grouped
returns-clause-grouped g c =
    let r = g.R.Reversible in
    let s = r.content c.args.state.now in
    let after = r.content c.turn_nearest.new.state in
    let floor = c.self.inside.floor in
    let side = c.self.inside.past in
    let past = map (told r.delta) (steps_on side) in
    let left = map (told r.delta) (steps_on c.turn_nearest.new.from) in
    let below : AtFloor floor c.len.result → ⊥ = search rules in
    let above : AtFloor floor (length past) → ⊥ =
    λ at. below (subst (AtFloor floor) (omega (arith, length-told r.delta side.changes.items side.entries.items, c.len.ensures)) at) in
    let t = stepped_back-parts r.turned s after c.args.cursor.now c.turn_nearest.new.cursor past left (map (told r.delta) (steps_on c.self.inside.future))
    (map (told r.delta) (steps_on c.turn_nearest.new.to)) c.turn_nearest.ensures.step.steps in
    let floors = floor_kept r.turned floor after s t.near left past t.parts t.state
    (stands_below floor (length past) (length left) above (ap length t.parts)) in (
      ap (λ j. undone_over (grouped_of r.turned r.delta s c.args.cursor.now j)) (sym c.self.view_is)
          ∙ undone_over_by _ _ _ _ (not_at_floor r.turned floor s past above) c.turn_nearest.ensures.step.states floors,
      ap floor_in c.self.view_is,
    )
