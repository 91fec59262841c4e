-- The single changes of a saved step: each is made, and those of a group are then made one step.
use Rattle.std.proofs.Common.{◌≡◌, ◌≤◌, ◌<◌, ◌++◌, ℕ, List, [], ◌∷◌, length, map, take, drop, refl, ap, ap₂, sym, ◌∙◌, subst, arith, append_assoc}
use Rattle.std.specs.Prelude.{flat_map}
use Rattle.std.proofs.Math.Seq.{drop-append_seam, take-append_seam}
use Rattle.std.proofs.lemmas.List.{append-nil, length-append, length-map, length-reverse, map-append}
use Rattle.irig_journal.specs.Turns.{FitAll, backs, left_by, ways_back}
use Rattle.irig_journal.specs.{History.History, History.Step, History.step, Joining.changes_of, Laws.Turns.FitAll-append, Laws.Turns.ways_back-cons}
use Rattle.irig_saved.specs.declared.change.Change.TheVariants.{One, Group}
use Rattle.irig_saved.specs.{declared.change.Change.Change, declared.single.Single.Single, declared.step.SavedStep.SavedStep}
use Rattle.irig_edit.specs.Changes.Delta.{Fits, gathered, singles_of, turned}
use Rattle.irig_edit.specs.Opened.Walk.{changed, gone_on, walk}
use Rattle.irig_edit.specs.Opened.Taken.{CanTake, FirstFits, step_of}
use Rattle.irig_edit.specs.{Changes.Single.FitsSingle, Changes.Single.turned_single, State.State.State}

-- single changes made one after another, each a step of its own
abbrev pub made_along : History State Change → List Single → History State Change
made_along h [] = h
made_along h (d ∷ ds) = made_along (changed h (One d)) ds

made_along-append : (h : History State Change) (ds es : List Single) → made_along h (ds ++ es) ≡ made_along (made_along h ds) es
made_along-append h [] es = refl
made_along-append h (d ∷ ds) es = made_along-append (changed h (One d)) ds es

-- they leave the state that they leave together
state_along : (h : History State Change) (ds : List Single) → (made_along h ds).state ≡ left_by turned_single h.state ds
state_along h [] = refl
state_along h (d ∷ ds) = state_along (changed h (One d)) ds

-- a step of one change
abbrev alone_at : ℕ → Single → Step Change
alone_at cursor d = step (One d) cursor

-- what leads back from them, the nearest first
abbrev steps_along : History State Change → List Single → List (Step Change)
steps_along h ds = map (alone_at h.cursor) (ways_back turned_single h.state ds)

-- and each has its step back
walk_along : (h : History State Change) (ds : List Single) → h.future ≡ []
    → made_along h ds ≡ walk (left_by turned_single h.state ds) h.cursor (steps_along h ds ++ h.past) []
walk_along h [] none = λ k. walk h.state h.cursor h.past (none k)
walk_along h (d ∷ ds) none =
    let at = alone_at h.cursor in
    let after = (turned_single h.state d).0 in
    let back = (turned_single h.state d).1 in
    let ways = ways_back turned_single after ds in
    let past : steps_along h (d ∷ ds) ++ h.past ≡ map at ways ++ at back ∷ h.past =
    ap (λ (l : List Single). map at l ++ h.past) (ways_back-cons turned_single h.state d ds)
    ∙ (ap (λ (l : List (Step Change)). l ++ h.past) (map-append at ways (back ∷ []))
    ∙ append_assoc (map at ways) (at back ∷ []) h.past) in
    walk_along (changed h (One d)) ds refl
    ∙ ap (λ (l : List (Step Change)). walk (left_by turned_single after ds) h.cursor l []) (sym past)

length-backs : (s : State) (ds : List Single) → length (backs turned_single s ds) ≡ length ds
length-backs s [] = refl
length-backs s (d ∷ ds) = omega (arith, length-backs (turned_single s d).0 ds)

length-steps_along : (h : History State Change) (ds : List Single) → length (steps_along h ds) ≡ length ds
length-steps_along h ds =
    length-map (ways_back turned_single h.state ds) (alone_at h.cursor)
    ∙ (length-reverse (backs turned_single h.state ds) ∙ length-backs h.state ds)

-- the singles of steps of one change each
singles_alone : (cursor : ℕ) (ds : List Single) → flat_map singles_of (changes_of (map (alone_at cursor) ds)) ≡ ds
singles_alone cursor [] = refl
singles_alone cursor (d ∷ ds) = ap (λ (l : List Single). d ∷ l) (singles_alone cursor ds)

-- what was made of single changes, from a state on, and what is left
pub record MadeSoFar (h : History State Change) (names : List Single) (now : History State Change) (left : List Single) : Type 0 where
  pub done : List Single
  pub all : names ≡ done ++ left
  pub fit : FitAll FitsSingle turned_single h.state done
  pub stands : now ≡ made_along h done

-- before any is made
pub made_none : (h : History State Change) (names : List Single) → MadeSoFar h names h names
made_none h names = record { done = []; all = refl; fit = tt; stands = refl }

-- one more was made
pub made_more : (h now next : History State Change) (names left : List Single) (x : Single)
    → MadeSoFar h names now (x ∷ left) → FitsSingle now.state x → next ≡ changed now (One x)
    → MadeSoFar h names next left
made_more h now next names left x so_far can goes =
    let done = so_far.done in
    let there : now.state ≡ left_by turned_single h.state done = ap (λ (w : History State Change). w.state) so_far.stands ∙ state_along h done in
    record {
      done = done ++ x ∷ [];
      all = so_far.all ∙ sym (append_assoc done (x ∷ []) left);
      fit = FitAll-append FitsSingle turned_single h.state done (x ∷ []) so_far.fit (subst (λ (s : State). FitsSingle s x) there can, tt);
      stands = goes ∙ (ap (λ (w : History State Change). changed w (One x)) so_far.stands ∙ sym (made_along-append h done (x ∷ [])));
    }

-- if the next can't be made, they can't all be
no_more : (s : State) (ds : List Single) (x : Single) (left : List Single) → FitAll FitsSingle turned_single s (ds ++ x ∷ left)
    → (FitsSingle (left_by turned_single s ds) x → ⊥) → ⊥
no_more s [] x left fit none = none fit.0
no_more s (d ∷ ds) x left fit none = no_more (turned_single s d).0 ds x left fit.1 none

pub made_stops : (h now : History State Change) (names left : List Single) (x : Single) → MadeSoFar h names now (x ∷ left)
    → (FitsSingle now.state x → ⊥) → FitAll FitsSingle turned_single h.state names → ⊥
made_stops h now names left x so_far none fit =
    let there : now.state ≡ left_by turned_single h.state so_far.done =
    ap (λ (w : History State Change). w.state) so_far.stands ∙ state_along h so_far.done in
    no_more h.state so_far.done x left (subst (λ (l : List Single). FitAll FitsSingle turned_single h.state l) so_far.all fit)
    (λ can. none (subst (λ (s : State). FitsSingle s x) (sym there) can))

-- the first of those that were made, or that comes next, can be made
first_fits : (s : State) (done left : List Single) (x : Single) → FitAll FitsSingle turned_single s done
    → FitsSingle (left_by turned_single s done) x → FirstFits s (done ++ x ∷ left)
first_fits s [] left x fit can = can
first_fits s (d ∷ ds) left x fit can = fit.0

pub made_first : (h now : History State Change) (names left : List Single) (x : Single) → MadeSoFar h names now (x ∷ left)
    → FitsSingle now.state x → FirstFits h.state names
made_first h now names left x so_far can =
    let there : now.state ≡ left_by turned_single h.state so_far.done =
    ap (λ (w : History State Change). w.state) so_far.stands ∙ state_along h so_far.done in
    subst (FirstFits h.state) (sym so_far.all)
    (first_fits h.state so_far.done left x so_far.fit (subst (λ (s : State). FitsSingle s x) there can))

-- as many steps were made as there are changes
names_done : (h now : History State Change) (names : List Single) (so_far : MadeSoFar h names now []) → length so_far.done ≡ length names
names_done h now names so_far = omega (arith, ap length so_far.all, length-append so_far.done [])

pub enough_made : (h now : History State Change) (names : List Single) → h.future ≡ [] → MadeSoFar h names now [] → length names ≤ length now.past
enough_made h now names none so_far =
    let past = ap (λ (w : History State Change). w.past) (so_far.stands ∙ walk_along h so_far.done none) in
    omega (
      arith,
      ap length past,
      length-append (steps_along h so_far.done) h.past,
      length-steps_along h so_far.done,
      names_done h now names so_far,
    )

-- all of them were made, and then one group of them
pub group_made : (h now next : History State Change) (names : List Single) (n : ℕ) → h.future ≡ [] → n ≡ length names
    → MadeSoFar h names now []
    → next ≡ walk now.state now.cursor (step (gathered (changes_of (take n now.past))) now.cursor ∷ drop n now.past) now.future
    → FitAll FitsSingle turned_single h.state names × (next ≡ changed h (Group names))
group_made h now next names n none counts so_far goes =
    let ds = so_far.done in
    let steps = steps_along h ds in
    let stands : now ≡ walk (left_by turned_single h.state ds) h.cursor (steps ++ h.past) [] = so_far.stands ∙ walk_along h ds none in
    let long : n ≡ length steps = counts ∙ (sym (names_done h now names so_far) ∙ sym (length-steps_along h ds)) in
    let news : take n (steps ++ h.past) ≡ steps = ap (λ (m : ℕ). take m (steps ++ h.past)) long ∙ take-append_seam steps h.past in
    let olds : drop n (steps ++ h.past) ≡ h.past = ap (λ (m : ℕ). drop m (steps ++ h.past)) long ∙ drop-append_seam steps h.past in
    let group : gathered (changes_of (take n (steps ++ h.past))) ≡ Group (ways_back turned_single h.state ds) =
    ap (λ (l : List (Step Change)). gathered (changes_of l)) news ∙ ap Group (singles_alone h.cursor (ways_back turned_single h.state ds)) in
    let made : next ≡ changed h (Group ds) =
    goes
    ∙ (ap (λ (w : History State Change). walk w.state w.cursor (step (gathered (changes_of (take n w.past))) w.cursor ∷ drop n w.past) w.future) stands
    ∙ ap₂ (λ (d : Change) (l : List (Step Change)). walk (left_by turned_single h.state ds) h.cursor (step d h.cursor ∷ l) []) group olds) in
    let all : ds ≡ names = sym (so_far.all ∙ append-nil ds) in
    (subst (λ (l : List Single). FitAll FitsSingle turned_single h.state l) all so_far.fit, made ∙ ap (λ (l : List Single). changed h (Group l)) all)

-- the change of a step was made, and the cursor moved: the step is taken
pub took : (h between new : History State Change) (s : SavedStep) → Fits h.state s.change → between ≡ changed h s.change
    → s.cursor ≤ length between.state.pulses → new ≡ walk between.state s.cursor between.past between.future
    → CanTake h.state (step_of s) × (new ≡ gone_on h (step_of s))
took h between new s can made within goes =
    let cursor : s.cursor ≤ length (turned h.state s.change).0.pulses =
    subst (λ (w : History State Change). s.cursor ≤ length w.state.pulses) made within in
    (record { fits = can; cursor = cursor }, goes ∙ ap (λ (w : History State Change). walk w.state s.cursor w.past w.future) made)

-- its cursor is beyond the last pulse
pub beyond_last : (h between : History State Change) (s : SavedStep) → between ≡ changed h s.change
    → length between.state.pulses < s.cursor → CanTake h.state (step_of s) → ⊥
beyond_last h between s made over = λ can.
    let within : s.cursor ≤ length (turned h.state s.change).0.pulses = can.cursor in
    let few : length (turned h.state s.change).0.pulses < s.cursor = subst (λ (w : History State Change). length w.state.pulses < s.cursor) made over in
    omega (arith, within, few)
