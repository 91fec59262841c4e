use Rattle.std.proofs.Common.{rules}
use Rattle.irig_journal.specs.Journal.{LacksPlace, steps_in}
use Rattle.irig_journal.proofs.{ReadyLemmas.ready_same, SideLemmas.lacks_place, SideLemmas.same_steps}
use Rattle.irig_journal.proofs.places.reserve_change.Goals as goal

pub returns-in_default-clause-memory : goal.returns-in_default-clause-memory
returns-in_default-clause-memory g c =
    let lacks : LacksPlace (steps_in c.args.past.now c.args.future.now) =
    lacks_place c.args.past.now c.args.future.now c.requires.sides (search rules) in
    search (rules, lacks)

-- what was ready stays ready, at the same content
pub returns-clause-ready : goal.returns-clause-ready
returns-clause-ready g c =
    let r = g.R.Reversible in
    ready_same r.fits r.turned r.delta (r.has_room (r.places c.args.state.now)) (r.has_room (r.places c.prepare.new.self))
    (λ x y h. g.met.R.Reversible.wider _ _ x y c.prepare.ensures.grows h) (r.content c.args.state.now) (r.content c.prepare.new.self)
    (steps_in c.args.past.now c.args.future.now) (steps_in c.reserve_step.new.past c.reserve_step.new.future) c.prepare.ensures.state
    (same_steps c.args.past.now c.reserve_step.new.past c.reserve_step.ensures.past)
    (same_steps c.args.future.now c.reserve_step.new.future c.reserve_step.ensures.future) c.requires.ready
