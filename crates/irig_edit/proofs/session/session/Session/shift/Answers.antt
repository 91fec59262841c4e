use Rattle.std.proofs.Common.{◌≡◌, ◌∙◌, ℕ, ℤ, None, ap, subst, w64}
use Rattle.std.proofs.lemmas.Int.{to_z-of_z}
use Rattle.irig_edit.specs.Edits.Becoming.{Becomes, judgement_of}
use Rattle.irig_edit.specs.{Session.Calls.Edit.Shift, Changes.Delta.turned, Edits.Changes.change_by, Session.Session.SessionView, State.State.State}
use Rattle.irig_saved.specs.{declared.change.Change.Change, declared.change.Change.TheVariants.One}
use Rattle.irig_edit.proofs.session.session.Session.shift.Goals as goal

same_change : (i j : ℕ) (d e : ℤ) (s t : State) (m : Change) → e ≡ d → s ≡ t → m ≡ change_by (Shift i j e) s → m ≡ change_by (Shift i j d) t
same_change i j d e s t m passed same is = is ∙ (λ k. change_by (Shift i j (passed k)) (same k))

pub returns-clause-step : goal.returns-clause-step
returns-clause-step c =
    let i = c.args.i in
    let j = c.args.j in
    let d = c.args.by in
    let m = c.in_ok-shift.shift in
    let r = c.in_ok-shift.ensures in
    let passed = to_z-of_z w64 d c.ranges.by in
    let same = ap (λ (v : SessionView). v.state) c.self.view_is in
    let none = subst (λ (x : State). judgement_of (Shift i j d) x ≡ None) same
    (subst (λ (e : ℤ). judgement_of (Shift i j e) c.self.inside.present.state ≡ None) passed r.allowed) in
    let made = One m in
    let becomes = subst (λ (x : State). Becomes (Shift i j d) x (turned x made).0 j) same
    (subst (λ (e : ℤ). Becomes (Shift i j e) c.self.inside.present.state (turned c.self.inside.present.state made).0 j)
    passed r.becomes) in
    c.change.ensures.step (Shift i j d) none becomes (same_change i j d _ _ _ made passed same r.change)

pub returns-clause-looks : goal.returns-clause-looks
returns-clause-looks c =
    let passed = to_z-of_z w64 c.args.by c.ranges.by in
    let same = ap (λ (v : SessionView). v.state) c.self.view_is in
    c.change.ensures.looks (Shift c.args.i c.args.j c.args.by)
    (same_change c.args.i c.args.j c.args.by _ _ _ (One c.in_ok-shift.shift) passed same c.in_ok-shift.ensures.change)
