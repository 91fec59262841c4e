use Rattle.std.proofs.Common.{◌≡◌, ◌≤◌, length, Bool, true, not, [], ◌∷◌, Ok, ap, refl, subst, arith, ◌∙◌}
use Rattle.std.proofs.lemmas.Bool.Decides.{nat_tests}
use Rattle.irig_edit.specs.{Session.Calls.Call.Go, Edits.Conditions.are_pulses, Session.Machine.Steps, Edits.Refusals.first_holding}
use Rattle.irig_edit.specs.{Session.Session.SessionView, Session.Session.work_in, Session.Work.work_at, declared.session.refusal.Refusal.TheVariants.NoPulse}
use Rattle.irig_edit.proofs.SessionLemmas.Works.{IsWork-at}
use Rattle.irig_edit.proofs.session.session.Session.go.Goals as goal

pub invariant_of-self : goal.invariant_of-self
invariant_of-self c =
    let s = c.self.inside in
    let there : c.args.pulse ≤ length s.present.state.pulses = omega (arith, c.if-pulse-len.false, (c.len.ensures.len ∙ ap length c.track.ensures.pulses)) in
    (IsWork-at (work_at s.present.state s.cursor s.journal) c.args.pulse c.self.invariant.0 there, c.self.invariant.1)

pub returns-clause-step : goal.returns-clause-step
returns-clause-step c =
    let s = c.self.inside in
    let first : 1 ≤ c.args.pulse = omega (arith, c.if-pulse-eq0.false) in
    let last : c.args.pulse ≤ length s.present.state.pulses = omega (arith, c.if-pulse-len.false, (c.len.ensures.len ∙ ap length c.track.ensures.pulses)) in
    let there : are_pulses c.args.pulse c.args.pulse s.present.state ≡ true = grind (arith, nat_tests) in
    let none = ap (λ (test : Bool). first_holding ((not test, NoPulse) ∷ [])) there in
    subst (λ (v : SessionView). Steps (Go c.args.pulse) (work_in v) (Ok tt) (work_at s.present.state c.args.pulse s.journal)) c.self.view_is
    (none, refl)
