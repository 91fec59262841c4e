use Rattle.std.proofs.Common.{◌≡◌, ◌≤◌, length, ap, sym, subst, ◌-◌, arith}
use Rattle.irig_journal.specs.{Groups.recorded_over, Machine.Kept, Machine.Machine, Machine.kept}
use Rattle.irig_edit.specs.Session.Work.{Work, grouped_in, made, work_at}
use Rattle.irig_edit.specs.{Changes.Delta.Fits, Changes.Delta.turned, Changes.Held.deltas_of, State.State.State, Changes.Looks.Within, Changes.Looks.looks_of}
use Rattle.irig_edit.specs.{Session.Limits.IsWork, Session.Session.SessionView, Session.Session.work_in}
use Rattle.irig_saved.specs.{declared.change.Change.Change, declared.change.Change.TheVariants.One}
use Rattle.irig_edit.proofs.session.session.Session.change.Goals.{In-Ok}
use Rattle.irig_edit.proofs.{SessionLemmas.Works.IsWork-made, ChangeLemmas.LooksOfSteps.shown, SessionLemmas.MachineSteps.accepts_becomes}
use Rattle.irig_edit.proofs.session.session.Session.change.Goals as goal

-- the change is one more step
longer : (c : In-Ok) → work_at c.record.new.state.state c.args.cursor c.record.new.self
    ≡ made (One c.args.single) c.args.cursor (work_at c.self.inside.present.state c.self.inside.cursor c.self.inside.journal)
longer c =
    let state = ap (λ (m : Machine (Kept State)). m.present.state) (c.in-Ok.ensures.machine 0) in
    let steps = c.in-Ok.ensures.steps in
    (λ i. record { state = state i; cursor = c.args.cursor; past = steps.0 i; future = steps.1 i; floor = steps.2 i })

pub record-requires-clause-applies : goal.record-requires-clause-applies
record-requires-clause-applies c =
    let same = ap (λ (v : SessionView). v.state) c.self.view_is in
    subst (λ (s : State). Fits s (One c.args.single)) (sym same) c.requires.fits

pub invariant_of-self : goal.invariant_of-self
invariant_of-self c =
    let s = c.self.inside in
    let d = One c.args.single in
    let same = sym (ap (λ (v : SessionView). v.state) c.self.view_is) in
    let fits = subst (λ (x : State). Fits x d) same c.requires.fits in
    let within = subst (λ (x : State). c.args.cursor ≤ length (turned x d).0.pulses) same c.requires.cursor in
    let new = IsWork-made (work_at s.present.state s.cursor s.journal) d c.args.cursor c.self.invariant.0 fits within in
    (subst (λ (w : Work). IsWork w) (sym (longer (goal.at.invariant_of-self c).In-Ok)) new, c.record.ensures.ready)

pub invariant_of-self-in-Err : goal.invariant_of-self-in-Err
invariant_of-self-in-Err c =
    let unmoved = c.in-Err.ensures.err in
    let at = c.self.inside.cursor in
    let is : work_at c.record.new.state.state at c.record.new.self ≡ work_at c.self.inside.present.state at c.self.inside.journal =
    (λ k. record { state = unmoved.1 k; cursor = at; past = deltas_of (unmoved.3 k); future = deltas_of (unmoved.4 k); floor = unmoved.5 k }) in
    (subst (λ (w : Work). IsWork w) (sym is) c.self.invariant.0, c.record.ensures.ready)

pub returns-in-Ok-clause-ok : goal.returns-in-Ok-clause-ok
returns-in-Ok-clause-ok c =
    let d = One c.args.single in
    let w = work_at c.record.new.state.state c.args.cursor c.record.new.self in
    subst (λ (v : SessionView). (w ≡ made d c.args.cursor (work_in v))
    × (grouped_in w ≡ recorded_over (grouped_in (work_in v)) (kept (turned v.state d).0 c.args.cursor))) c.self.view_is
    (longer (goal.at.returns-in-Ok-clause-ok c).In-Ok, c.in-Ok.ensures.grouped c.args.cursor)

pub returns-in-Ok-clause-step : goal.returns-in-Ok-clause-step
returns-in-Ok-clause-step c =
    let ok = returns-in-Ok-clause-ok c in
    λ edit none becomes same. (none, accepts_becomes edit (work_in c.args.self.now) _ (One c.args.single) c.args.cursor becomes same c.requires.fits ok.0 ok.1)

pub returns-in-Ok-clause-looks : goal.returns-in-Ok-clause-looks
returns-in-Ok-clause-looks c =
    let looks = c.looks_since-self-inside.result in
    let d = One c.args.single in
    let most = looks_of c.self.inside.present.state d in
    let old = c.self.inside.present.index.looks in
    let new = c.record.new.state.index.looks in
    let within = shown most old new c.looks-before.result looks c.in-Ok.ensures.once c.looks-before.ensures (omega arith) c.looks_since-self-inside.ensures in
    λ edit same. subst (λ (x : Change). (c.args.self.now.looks ≤ new) × (looks ≡ new - c.args.self.now.looks)
    × Within (looks_of c.args.self.now.state x) looks) same
    (subst (λ (v : SessionView). (v.looks ≤ new) × (looks ≡ new - v.looks) × Within (looks_of v.state d) looks) c.self.view_is within)
