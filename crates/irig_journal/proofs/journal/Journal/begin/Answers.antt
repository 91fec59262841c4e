use Rattle.std.proofs.Common.{rules, ◌≡◌, None, Some, length, map, ap, sym, ◌∙◌, arith}
use Rattle.irig_journal.specs.{Groups.begun, Journal.grouped_of, Journal.past_of, Journal.told, Sides.steps_on}
use Rattle.irig_journal.proofs.{FloorLemmas.begun_by, FloorLemmas.grouped_at, SideLemmas.length-told}
use Rattle.irig_journal.proofs.journal.Journal.begin.Goals as goal

pub returns-clause-grouped : goal.returns-clause-grouped
returns-clause-grouped g c s =
    let r = g.R.Reversible in
    let side = c.self.inside.past in
    let past = map (told r.delta) (steps_on side) in
    let future = map (told r.delta) (steps_on c.self.inside.future) in
    let none : c.self.inside.floor ≡ None = search rules in
    ap (λ j. begun (grouped_of r.turned r.delta s c.args.cursor j)) (sym c.self.view_is)
    ∙ ap (λ f. begun (grouped_at r.turned s c.args.cursor past future f)) none
    ∙ begun_by r.turned s c.args.cursor c.len-steps.result past future (omega (arith, length-told r.delta side.changes.items side.entries.items))

pub returns-clause-floor : goal.returns-clause-floor
returns-clause-floor g c =
    let r = g.R.Reversible in
    let side = c.self.inside.past in
    let many : c.len-steps.result ≡ length (map (told r.delta) (steps_on side)) =
    omega (arith, length-told r.delta side.changes.items side.entries.items) in
    let steps = many ∙ ap (λ j. length (past_of r.delta j)) c.self.view_is in
    (λ i. Some (record { steps = steps i; cursor = c.args.cursor }))
