-- A state that continues along steps, and back again.
use Rattle.std.proofs.Common.{◌≡◌, ◌≢◌, ◌⊎◌, inl, inr, Ok, Err, Result, OnOk, OnErr, IsErrOf, None, ℕ, suc, zero, ◌++◌, ◌≤◌, List, [], ◌∷◌, Some, length, take}
use Rattle.std.proofs.Common.{drop, refl, ap, ap₂, sym, ◌∙◌, subst, arith}
use Rattle.std.proofs.lemmas.List.{take-append-drop, take_all}
use Rattle.std.proofs.Math.ListN.{drop_of_length-le}
use Rattle.irig_journal.specs.declared.fault.JournalFault.TheVariants.{GroupFloor, NothingToUndo}
use Rattle.irig_journal.specs.{History.History, History.Step, History.step, History.stepped_back, History.turned_back, declared.fault.JournalFault.JournalFault}
use Rattle.irig_saved.specs.declared.change.Change.{Change}
use Rattle.irig_edit.specs.{Changes.Delta.turned, Changes.Laws.Delta.IsState-turned, Changes.Laws.Delta.turned-turned, State.State.State, State.State.IsState}
use Rattle.irig_edit.specs.{Opened.Taken.CanTake, Opened.Taken.CanTakeAll, Opened.Walk.ahead_of, Opened.Walk.gone_along, Opened.Walk.gone_on, Opened.Walk.walk}

-- steps and then others
pub gone_along-append : (h : History State Change) (ds es : List (Step Change))
    → gone_along h (ds ++ es) ≡ gone_along (gone_along h ds) es
gone_along-append h [] es = refl
gone_along-append h (d ∷ ds) es = gone_along-append (gone_on h d) ds es

-- the first of steps that can be taken can be taken, and the next there
pub can_take-append : (h : History State Change) (ds es : List (Step Change)) → CanTakeAll h.state ds
    → CanTakeAll (gone_along h ds).state es → CanTakeAll h.state (ds ++ es)
can_take-append h [] es first next = next
can_take-append h (d ∷ ds) es first next = (first.0, can_take-append (gone_on h d) ds es first.1 next)

pub can_take-first : (h : History State Change) (ds es : List (Step Change)) → CanTakeAll h.state (ds ++ es)
    → CanTakeAll h.state ds
can_take-first h [] es all = tt
can_take-first h (d ∷ ds) es all = (all.0, can_take-first (gone_on h d) ds es all.1)

pub can_take-next : (h : History State Change) (ds es : List (Step Change)) → CanTakeAll h.state (ds ++ es)
    → CanTakeAll (gone_along h ds).state es
can_take-next h [] es all = all
can_take-next h (d ∷ ds) es all = can_take-next (gone_on h d) ds es all.1

-- steps lead to states within the limits
pub IsState-gone : (h : History State Change) (ds : List (Step Change)) → IsState h.state → CanTakeAll h.state ds
    → IsState (gone_along h ds).state
IsState-gone h [] is can = is
IsState-gone h (d ∷ ds) is can = IsState-gone (gone_on h d) ds (IsState-turned h.state d.change is can.0.fits) can.1

-- a step that was taken is undone: it is ahead then
pub back_once : (h : History State Change) (d : Step Change) (es : List (Step Change)) → IsState h.state → CanTake h.state d
    → stepped_back turned (ahead_of (gone_on h d) es) ≡ Some (ahead_of h (d ∷ es))
back_once h d es is can =
    let law = turned-turned h.state d.change is can.fits in
    (λ k. Some (walk (law k).0 h.cursor h.past (step (law k).1 d.cursor ∷ es)))

-- so is the last of steps
pub back_last : (h : History State Change) (ds es : List (Step Change)) (d : Step Change) → IsState h.state
    → CanTakeAll h.state (ds ++ d ∷ [])
    → stepped_back turned (ahead_of (gone_along h (ds ++ d ∷ [])) es) ≡ Some (ahead_of (gone_along h ds) (d ∷ es))
back_last h ds es d is can =
    let there = gone_along h ds in
    let can_first = can_take-first h ds (d ∷ []) can in
    let can_last = can_take-next h ds (d ∷ []) can in
    ap (λ (x : History State Change). stepped_back turned (ahead_of x es)) (gone_along-append h ds (d ∷ []))
    ∙ back_once there d es (IsState-gone h ds is can_first) can_last.0

-- the steps so far, and one more
split_more : (n : ℕ) (ds : List (Step Change)) → suc n ≤ length ds
    → (d : Step Change) × ((take (suc n) ds ≡ take n ds ++ d ∷ []) × (drop n ds ≡ d ∷ drop (suc n) ds))
split_more n [] short = absurd (omega arith)
split_more zero (d ∷ ds) short = (d, (refl, refl))
split_more (suc n) (d ∷ ds) short =
    let rest = split_more n ds (omega arith) in
    (rest.0, (ap (λ (xs : List (Step Change)). d ∷ xs) rest.1.0, rest.1.1))

-- what steps back has a step
back_some : (old new : History State Change) → stepped_back turned old ≡ Some new → old.past ≢ []
back_some old new back none =
    let gone : Some new ≡ None =
    sym back ∙ ap (λ (l : List (Step Change)). turned_back turned old.state old.cursor l old.future) none in
    absurd (cc)

-- an undo that can only be refused if there is no step, or below a floor, is made
pub made_back : (r : Result Unit JournalFault) (P : Type 0) → OnOk r P → OnErr r (IsErrOf r NothingToUndo ⊎ IsErrOf r GroupFloor)
    → (IsErrOf r NothingToUndo → ⊥) → (IsErrOf r GroupFloor → ⊥) → P
made_back (Ok u) P ok faults some above = ok
made_back (Err e) P ok faults some above = elim faults as (λ _. P) [
  | inl none ↦ absurd (some none)
  | inr low ↦ absurd (above low)
]

-- one more of the steps that were taken is undone
pub back_more : (h old new : History State Change) (ds : List (Step Change)) (n : ℕ) → IsState h.state → CanTakeAll h.state ds
    → suc n ≤ length ds → old ≡ ahead_of (gone_along h (take (suc n) ds)) (drop (suc n) ds)
    → (old.past ≢ [] → stepped_back turned old ≡ Some new) → new ≡ ahead_of (gone_along h (take n ds)) (drop n ds)
back_more h old new ds n is can long stands goes =
    let split = split_more n ds long in
    let d = split.0 in
    let firsts = take n ds in
    let es = drop (suc n) ds in
    let whole : ds ≡ (firsts ++ d ∷ []) ++ es =
    sym (take-append-drop (suc n) ds) ∙ ap (λ (xs : List (Step Change)). xs ++ es) split.1.0 in
    let can_these = can_take-first h (firsts ++ d ∷ []) es (subst (λ (xs : List (Step Change)). CanTakeAll h.state xs) whole can) in
    let there : old ≡ ahead_of (gone_along h (firsts ++ d ∷ [])) es =
    stands ∙ ap (λ (xs : List (Step Change)). ahead_of (gone_along h xs) es) split.1.0 in
    let last = ap (stepped_back turned) there ∙ back_last h firsts es d is can_these in
    let some : old.past ≢ [] = back_some old (ahead_of (gone_along h firsts) (d ∷ es)) last in
    let gone : Some new ≡ Some (ahead_of (gone_along h firsts) (d ∷ es)) = sym (goes some) ∙ last in
    let same : new ≡ ahead_of (gone_along h firsts) (d ∷ es) = cc in
    same ∙ ap (λ (xs : List (Step Change)). ahead_of (gone_along h firsts) xs) (sym split.1.1)

-- no step is ahead of one that was taken
pub future_gone : (h : History State Change) (ds : List (Step Change)) → h.future ≡ [] → (gone_along h ds).future ≡ []
future_gone h [] none = none
future_gone h (d ∷ ds) none = future_gone (gone_on h d) ds refl

-- before any is undone
pub back_none : (h old : History State Change) (ds : List (Step Change)) (n : ℕ) → old ≡ gone_along h ds → h.future ≡ []
    → length ds ≡ n → old ≡ ahead_of (gone_along h (take n ds)) (drop n ds)
back_none h old ds n stands none long =
    let whole : take n ds ≡ ds = take_all n ds (omega (arith, long)) in
    let rest : drop n ds ≡ [] = drop_of_length-le ds (omega (arith, long)) in
    let there = gone_along h ds in
    let ahead : there ≡ ahead_of there [] = λ k. walk there.state there.cursor there.past (future_gone h ds none k) in
    stands ∙ (ahead ∙ ap₂ (λ (xs ys : List (Step Change)). ahead_of (gone_along h xs) ys) (sym whole) (sym rest))
