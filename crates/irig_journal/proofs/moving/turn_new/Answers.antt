use Rattle.std.proofs.Common.{map, ap, sym, subst, ◌∙◌}
use Rattle.irig_journal.specs.{Held.flat, History.FitInTurn, History.step, Journal.ReadyInTurn, Journal.one_of, Journal.told, Sides.steps_on}
use Rattle.irig_journal.proofs.{HeldLemmas.flat-cons, ReadyLemmas.IsWider, ReadyLemmas.ready_back, StepLemmas.fits_back}
use Rattle.irig_journal.proofs.moving.turn_new.Goals as goal

-- the way back is ready, before what was ready at the state
pub returns-clause-ready : goal.returns-clause-ready
returns-clause-ready g c =
    let r = g.R.Reversible in
    let s = r.content c.args.state.now in
    let after = r.content c.turn.new.self in
    let d = one_of r.delta c.args.change in
    let side = c.args.past.now in
    let back = c.turn.new.change in
    let small = r.has_room (r.places c.args.state.now) in
    let large = r.has_room (r.places c.turn.new.self) in
    let wider : IsWider small large = λ x y h. g.met.R.Reversible.wider _ _ x y c.turn.ensures.grows h in
    let law = g.met.R.Reversible.back s d c.turn.ensures.known c.requires.applies in
    let back_fits = g.met.R.Reversible.back_fits s d c.turn.ensures.known c.requires.applies in
    let pushed = c.push.ensures.steps in
    let none = c.clear.ensures.steps in (
      (
        fits_back r.fits r.turned s after (one_of r.delta back) (step d c.args.before) c.args.before (map (told r.delta) (steps_on side))
            (map (told r.delta) (steps_on c.push.new.self)) c.turn.ensures.turned back_fits law (ap (map (told r.delta)) pushed) c.requires.ready.0.0,
        subst (λ l. FitInTurn r.fits r.turned after (map (told r.delta) l)) (sym none) tt,
      ),
      ready_back r.fits r.turned r.delta small large wider s after d back (flat (steps_on side)) (flat (steps_on c.push.new.self))
          (ap flat pushed ∙ flat-cons back c.args.before (steps_on side)) c.turn.ensures.turned back_fits law c.turn.ensures.back c.requires.ready.1,
      subst (λ l. ReadyInTurn r.fits r.turned r.delta large after (flat l)) (sym none) (tt, tt),
    )
