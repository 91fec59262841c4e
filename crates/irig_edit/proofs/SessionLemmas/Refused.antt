-- What a refused call leaves.
use Rattle.std.proofs.Common.{◌≡◌, ℕ, Some, ap, sym, subst, ◌∙◌}
use Rattle.irig_journal.specs.Journal.{Steps}
use Rattle.irig_edit.specs.Session.Session.{LooksStay, SessionView, session_view, work_in}
use Rattle.irig_edit.specs.{Edits.Refusals.refusal_of, Session.Calls.Call, Session.Limits.IsWork, Session.Work.Work, Session.Work.work_at}
use Rattle.irig_edit.specs.{State.Present.PresentView, declared.changes.turn.Turn.Turn, declared.session.refusal.Refusal.Refusal}

-- the same state, cursor and journal are the same work
same_work : (p q : PresentView) (m n : ℕ) (i j : Steps Turn) → q ≡ p → n ≡ m → j ≡ i → work_at q.state n j ≡ work_at p.state m i
same_work p q m n i j here at steps = (λ k. work_at (here k).state (at k) (steps k))

-- a session that stays as it was is still within its limits
pub still_work : (p q : PresentView) (m n : ℕ) (i j : Steps Turn) → IsWork (work_at p.state m i) → q ≡ p → n ≡ m → j ≡ i → IsWork (work_at q.state n j)
still_work p q m n i j is here at steps = subst (λ (w : Work). IsWork w) (sym (same_work p q m n i j here at steps)) is

-- a refused call shows its refusal, moves nothing and makes no look
pub refused_stays : (call : Call) (e : Refusal) (v : SessionView) (p q : PresentView) (m n last : ℕ) (i j : Steps Turn)
    → session_view (work_at p.state m i) p.index.looks last ≡ v → refusal_of call (work_at p.state m i) ≡ Some e → q ≡ p → n ≡ m → j ≡ i
    → ((refusal_of call (work_in v) ≡ Some e) × (work_at q.state n j ≡ work_in v))
    × LooksStay v (session_view (work_at q.state n j) q.index.looks last)
refused_stays call e v p q m n last i j view refused here at steps = (
  (
    ap (λ (w : SessionView). refusal_of call (work_in w)) (sym view) ∙ refused,
    same_work p q m n i j here at steps ∙ ap work_in view,
  ),
  (
    ap (λ (x : PresentView). x.index.looks) here ∙ ap (λ (w : SessionView). w.looks) view,
    ap (λ (w : SessionView). w.last_looks) view,
  ),
)
