use Rattle.std.proofs.Common.{◌≡◌, ◌≤◌, length, None, refl, ap, sym, ◌∙◌, subst, ◌-◌}
use Rattle.irig_journal.specs.{GroupRuns.gone_to, Groups.Grouped, Groups.over, Machine.Kept}
use Rattle.irig_track.specs.{Splices.risen_by, Toggles.CanToggle}
use Rattle.irig_edit.specs.Session.Work.{Work, at_cursor, grouped_in, work_at}
use Rattle.irig_edit.specs.{Changes.Looks.Within, Changes.Looks.looks_of, Edits.Becoming.judgement_of, Session.Calls.Edit.Invert, Session.Session.SessionView}
use Rattle.irig_edit.specs.{Session.Session.work_in, State.State.State, State.State.IsState}
use Rattle.irig_saved.specs.{declared.change.Change.TheVariants.One, declared.single.Single.TheVariants.Toggle}
use Rattle.irig_edit.proofs.{SessionLemmas.Works.IsWork-at, SessionLemmas.MachineSteps.accepts_becomes, EditLemmas.Toggles.toggled_becomes}
use Rattle.irig_edit.proofs.session.session.Session.invert.Goals as goal

pub invariant_of-self : goal.invariant_of-self
invariant_of-self c =
    let changed = c.self-2.inside in
    let w = work_at changed.present.state changed.cursor changed.journal in
    (IsWork-at w c.find-self-inside.result c.self-2.invariant.0 c.find-self-inside.ensures.within, c.self-2.invariant.1)

pub returns-clause-step : goal.returns-clause-step
returns-clause-step c =
    let a = c.args.a in
    let b = c.args.b in
    let d = One (Toggle a b) in
    let s = c.args.self.now.state in
    let place = c.find-self-inside.result in
    let same = ap (λ (v : SessionView). v.state) c.self.view_is in
    let is = subst (λ (x : State). IsState x) same c.self.invariant.0.state in
    let can = subst (λ (x : State). CanToggle x.micros a b x.pulses) same c.in_ok-plan.ensures.can in
    let none = subst (λ (x : State). judgement_of (Invert a b) x ≡ None) same c.in_ok-plan.ensures.allowed in
    let steps = ap work_in c.self-2.view_is ∙ c.in_ok-change.ensures.ok.0 in
    let states = ap (λ (v : SessionView). grouped_in (work_in v)) c.self-2.view_is ∙ c.in_ok-change.ensures.ok.1 in
    let stands = ap (λ (w : Work). w.state) steps in
    let count = c.find-self-inside.ensures.count ∙ ap (λ (x : State). risen_by b x.pulses) stands in
    let within = subst (λ (x : State). place ≤ length x.pulses) stands c.find-self-inside.ensures.within in
    let becomes = toggled_becomes a b place s is can count within in (
      none,
      accepts_becomes (Invert a b) (work_in c.args.self.now) _ d place becomes refl can (ap (at_cursor place) steps)
          (ap (λ (g : Grouped (Kept State)). over g.floor (gone_to place g.machine)) states),
    )

pub returns-clause-looks : goal.returns-clause-looks
returns-clause-looks c =
    let before = c.args.self.now.looks in
    let most = looks_of c.args.self.now.state (One (Toggle c.args.a c.args.b)) in
    subst (λ (v : SessionView). (before ≤ v.looks) × (v.last_looks ≡ v.looks - before) × Within most v.last_looks) (sym c.self-2.view_is)
    (c.in_ok-change.ensures.looks (Invert c.args.a c.args.b) refl)
