use Rattle.std.proofs.Common.{map, ap, sym, refl, ◌∙◌}
use Rattle.irig_journal.specs.{Groups.aborted, Journal.grouped_of, Journal.told, Sides.steps_on}
use Rattle.irig_journal.proofs.FloorLemmas.{aborted_by, grouped_at}
use Rattle.irig_journal.proofs.journal.Journal.abort.Goals as goal

pub returns-clause-grouped : goal.returns-clause-grouped
returns-clause-grouped g c =
    let r = g.R.Reversible in
    let s = r.content c.args.state.now in
    let past = map (told r.delta) (steps_on c.self.inside.past) in
    let future = map (told r.delta) (steps_on c.self.inside.future) in
    let left = map (told r.delta) (steps_on c.turn_beyond.new.past) in
    let none = map (told r.delta) (steps_on c.clear.new.self) in
    let o = c.in-Some.opening in
    ap (λ j. aborted (grouped_of r.turned r.delta s c.args.cursor.now j)) (sym c.self.view_is)
    ∙ ap (λ f. aborted (grouped_at r.turned s c.args.cursor.now past future f)) c.in-Some.is
    ∙ aborted_by r.turned s (r.content c.turn_beyond.new.state) c.args.cursor.now o.cursor past left future none o c.turn_beyond.ensures.state
    c.turn_beyond.ensures.rest refl (ap (map (told r.delta)) c.clear.ensures.steps)
