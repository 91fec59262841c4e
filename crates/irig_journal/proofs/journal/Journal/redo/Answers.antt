use Rattle.std.proofs.Common.{map, length, ap, sym, subst, ◌∙◌, arith}
use Rattle.std.specs.Prelude.{option_map}
use Rattle.irig_journal.specs.Journal.{future_of, grouped_of, told}
use Rattle.irig_journal.specs.{Groups.redone_over, History.FitInTurn, History.step, Machine.mirrored, Openings.StandsOnFloor, Sides.steps_on}
use Rattle.irig_journal.proofs.FloorLemmas.{floor_in, floor_kept, stepped_back-parts, redone_over_by}
use Rattle.irig_journal.proofs.SideLemmas.{length-told}
use Rattle.irig_journal.proofs.journal.Journal.redo.Goals as goal

pub returns-clause-grouped : goal.returns-clause-grouped
returns-clause-grouped g c =
    let r = g.R.Reversible in
    let s = r.content c.args.state.now in
    let after = r.content c.turn_nearest.new.state in
    let floor = c.self.inside.floor in
    let side = c.self.inside.past in
    let past = map (told r.delta) (steps_on side) in
    let future = map (told r.delta) (steps_on c.self.inside.future) in
    let more = map (told r.delta) (steps_on c.turn_nearest.new.to) in
    let stands : StandsOnFloor floor (length past) =
    subst (StandsOnFloor floor) (omega (arith, length-told r.delta side.changes.items side.entries.items)) c.self.invariant.0 in
    let fit = subst (λ j. FitInTurn r.fits r.turned s (future_of r.delta j)) (sym c.self.view_is) c.requires.ready.0.1 in
    let t = stepped_back-parts r.turned s after c.args.cursor.now c.turn_nearest.new.cursor future (map (told r.delta) (steps_on c.turn_nearest.new.from)) past
    more c.turn_nearest.ensures.step.steps in
    let near = t.near.change in
    let fits = (subst (FitInTurn r.fits r.turned s) t.parts fit).0 in
    let home = ap (λ x. (r.turned x (r.turned s near).1).0) (sym t.state) ∙ ap (λ p. p.0) (g.met.R.Reversible.back s near c.turn_nearest.ensures.known fits) in
    let floors = floor_kept r.turned floor s after (step (r.turned s near).1 c.args.cursor.now) past more t.longer home stands in (
      ap (λ j. redone_over (grouped_of r.turned r.delta s c.args.cursor.now j)) (sym c.self.view_is)
          ∙ redone_over_by _ _ _ _ (ap (option_map mirrored) c.turn_nearest.ensures.step.states) (sym floors),
      ap floor_in c.self.view_is,
    )
