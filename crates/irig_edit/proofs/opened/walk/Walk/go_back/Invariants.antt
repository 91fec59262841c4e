use Rattle.std.proofs.Common.{◌≡◌, ◌-◌, List, [], length, take, drop}
use Rattle.irig_journal.specs.History.{History, Step}
use Rattle.irig_saved.specs.declared.change.Change.{Change}
use Rattle.irig_edit.specs.{State.State.State, State.State.IsState, Opened.Taken.CanTakeAll, Opened.Walk.ahead_of, Opened.Walk.gone_along}
use Rattle.irig_edit.proofs.opened.walk.Walk.go_back.Given as goal

-- those that were undone are ahead
abbrev pub invariant-loop : goal.invariant-loop
invariant-loop l =
    (h : History State Change) → (ds : List (Step Change)) → IsState h.state → CanTakeAll h.state ds
    → l.fn.self ≡ gone_along h ds → h.future ≡ [] → length ds ≡ l.fn.count
    → l.self ≡ ahead_of (gone_along h (take (l.fn.count - l.counter) ds)) (drop (l.fn.count - l.counter) ds)
