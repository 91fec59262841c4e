-- The steps of a saved journal that were taken so far.
use Rattle.std.proofs.Common.{◌≡◌, ◌<◌, ◌^◌, ℕ, ◌+◌, ◌++◌, List, [], ◌∷◌, length, take, reverse, refl, ap, sym, ◌∙◌, subst, arith, append_assoc}
use Rattle.std.proofs.Math.Seq.{take-append-add, take-append_seam}
use Rattle.std.proofs.lemmas.List.{length-append, map-append, reverse-append}
use Rattle.irig_saved.specs.{SavedText.step_lines, SavedText.steps_lines, declared.step.SavedStep.SavedStep, declared.change.Change.Change}
use Rattle.irig_journal.specs.History.{History, Step}
use Rattle.irig_saved.specs.declared.change.Change.TheVariants.{One, Group}
use Rattle.irig_edit.specs.Opened.Taken.{CanBegin, CanTake, CanTakeAll, FirstFits, step_of, steps_of}
use Rattle.irig_edit.specs.Changes.Delta.{Fits, singles_of}
use Rattle.irig_edit.specs.{State.State.State, Opened.Stops.StopsAt, Opened.Walk.gone_along, Opened.Walk.gone_on}
use Rattle.irig_edit.proofs.OpenedLemmas.Walks.{can_take-append, can_take-next, gone_along-append}

-- the lines of steps and of others
pub lines-append : (ss ts : List SavedStep) → length (steps_lines (ss ++ ts)) ≡ length (steps_lines ss) + length (steps_lines ts)
lines-append [] ts = omega arith
lines-append (s ∷ ss) ts =
    length-append (step_lines s) (steps_lines (ss ++ ts))
    ∙ (ap (λ n. length (step_lines s) + n) (lines-append ss ts)
    ∙ omega (arith, length-append (step_lines s) (steps_lines ss)))

-- in the opposite order too
pub lines-reverse : (ss : List SavedStep) → length (steps_lines (reverse ss)) ≡ length (steps_lines ss)
lines-reverse [] = refl
lines-reverse (s ∷ ss) =
    ap (λ (l : List SavedStep). length (steps_lines l)) (reverse-append (s ∷ []) ss)
    ∙ (lines-append (reverse ss) (s ∷ [])
    ∙ omega (arith, lines-reverse ss, length-append (step_lines s) [], length-append (step_lines s) (steps_lines ss)))

-- what was taken of steps, from a state on, and what is left
pub record TakenSoFar (h : History State Change) (names : List SavedStep) (now : History State Change) (left : List SavedStep) (before : ℕ) : Type 0 where
  pub done : List SavedStep
  pub all : names ≡ done ++ left
  pub can : CanTakeAll h.state (steps_of done)
  pub stands : now ≡ gone_along h (steps_of done)
  pub lines : before ≡ length (steps_lines done)

-- one more was taken
pub taken_more : (h now next : History State Change) (names left : List SavedStep) (before behind : ℕ) (s : SavedStep)
    → TakenSoFar h names now (s ∷ left) before → CanTake now.state (step_of s) → next ≡ gone_on now (step_of s)
    → behind ≡ before + length (step_lines s) → TakenSoFar h names next left behind
taken_more h now next names left before behind s so_far can goes counted =
    let steps = steps_of so_far.done in
    let d = step_of s in
    let more : steps_of (so_far.done ++ s ∷ []) ≡ steps ++ d ∷ [] = map-append step_of so_far.done (s ∷ []) in
    let there : now.state ≡ (gone_along h steps).state = ap (λ (x : History State Change). x.state) so_far.stands in
    record {
      done = so_far.done ++ s ∷ [];
      all = so_far.all ∙ sym (append_assoc so_far.done (s ∷ []) left);
      can = subst (λ (l : List (Step Change)). CanTakeAll h.state l) (sym more)
          (can_take-append h steps (d ∷ []) so_far.can (subst (λ (x : State). CanTake x d) there can, tt));
      stands = goes ∙ (ap (λ (x : History State Change). gone_on x d) so_far.stands
          ∙ (sym (gone_along-append h steps (d ∷ [])) ∙ ap (gone_along h) (sym more)));
      lines = counted ∙ (ap (λ n. n + length (step_lines s)) so_far.lines
          ∙ omega (arith, lines-append so_far.done (s ∷ []), length-append (step_lines s) []));
    }

-- the next can't be
pub taken_stops : (h now : History State Change) (names left : List SavedStep) (before behind : ℕ) (s : SavedStep)
    → TakenSoFar h names now (s ∷ left) before → (CanTake now.state (step_of s) → ⊥)
    → behind ≡ before + length (step_lines s) → length (steps_lines names) < 2 ^ 63
    → StopsAt h.state names before behind
taken_stops h now names left before behind s so_far none counted few =
    let done = so_far.done in
    let steps = steps_of done in
    let n = length done in
    let first : take n names ≡ done = ap (take n) so_far.all ∙ take-append_seam done (s ∷ left) in
    let more : take (n + 1) names ≡ done ++ s ∷ [] = ap (take (n + 1)) so_far.all ∙ take-append-add done (s ∷ left) 1 in
    let there : now.state ≡ (gone_along h steps).state = ap (λ (x : History State Change). x.state) so_far.stands in
    let split : steps_of (take (n + 1) names) ≡ steps ++ step_of s ∷ [] = ap steps_of more ∙ map-append step_of done (s ∷ []) in
    record {
      count = n;
      stops = record {
        there = omega (arith, ap length so_far.all, length-append done (s ∷ left));
        taken = subst (λ (l : List SavedStep). CanTakeAll h.state (steps_of l)) (sym first) so_far.can;
        refused = λ all.
            let next = can_take-next h steps (step_of s ∷ []) (subst (λ (l : List (Step Change)). CanTakeAll h.state l) split all) in
            none (subst (λ (x : State). CanTake x (step_of s)) (sym there) next.0);
      };
      before_are = so_far.lines ∙ ap (λ (l : List SavedStep). length (steps_lines l)) (sym first);
      behind_are = counted ∙ (omega (arith, so_far.lines, lines-append done (s ∷ []), length-append (step_lines s) [])
          ∙ ap (λ (l : List SavedStep). length (steps_lines l)) (sym more));
      few = omega (arith, so_far.lines, ap (λ (l : List SavedStep). length (steps_lines l)) so_far.all, lines-append done (s ∷ left));
    }

-- of a change that can be made so can the first single change
fits_first : (s : State) (d : Change) → Fits s d → FirstFits s (singles_of d)
fits_first s (One single) fits = fits
fits_first s (Group []) fits = tt
fits_first s (Group (single ∷ singles)) fits = fits.0

-- steps begin with those that were taken, or with the next, whose first single change can be made
begin_so : (h : History State Change) (done left : List SavedStep) (s : SavedStep) → CanTakeAll h.state (steps_of done)
    → FirstFits (gone_along h (steps_of done)).state (singles_of s.change) → CanBegin h.state (steps_of (done ++ s ∷ left))
begin_so h [] left s can first = first
begin_so h (d ∷ ds) left s can first = fits_first h.state d.change can.0.fits

pub taken_begin : (h now : History State Change) (names left : List SavedStep) (before : ℕ) (s : SavedStep)
    → TakenSoFar h names now (s ∷ left) before → FirstFits now.state (singles_of s.change) → CanBegin h.state (steps_of names)
taken_begin h now names left before s so_far first =
    let there : now.state ≡ (gone_along h (steps_of so_far.done)).state = ap (λ (x : History State Change). x.state) so_far.stands in
    subst (λ (l : List SavedStep). CanBegin h.state (steps_of l)) (sym so_far.all)
    (begin_so h so_far.done left s so_far.can (subst (λ (x : State). FirstFits x (singles_of s.change)) there first))

-- steps and others begin as the first of them
pub begin_more : (s : State) (ss ts : List SavedStep) → CanBegin s (steps_of ss) → CanBegin s (steps_of (ss ++ ts))
begin_more s [] ts begin = absurd begin
begin_more s (x ∷ xs) ts begin = begin

-- if they can be taken, as the others if there are none
pub begin_after : (s : State) (ss ts : List SavedStep) → CanTakeAll s (steps_of ss) → CanBegin s (steps_of ts)
    → CanBegin s (steps_of (ss ++ ts))
begin_after s [] ts can begin = begin
begin_after s (x ∷ xs) ts can begin = fits_first s x.change can.0.fits

-- the next of what is left
pub taken_next : (h now : History State Change) (names steps rest : List SavedStep) (s : SavedStep) (before : ℕ)
    → TakenSoFar h names now (reverse steps) before → steps ≡ rest ++ s ∷ [] → TakenSoFar h names now (s ∷ reverse rest) before
taken_next h now names steps rest s before so_far split =
    subst (λ (l : List SavedStep). TakenSoFar h names now l before) (ap reverse split ∙ reverse-append rest (s ∷ [])) so_far

-- its lines are among all lines
pub lines_short : (h now : History State Change) (names left : List SavedStep) (s : SavedStep) (before : ℕ)
    → TakenSoFar h names now (s ∷ left) before → length (steps_lines names) < 2 ^ 63 → before + length (step_lines s) < 2 ^ 63
lines_short h now names left s before so_far few =
    omega (
      arith,
      so_far.lines,
      ap (λ (l : List SavedStep). length (steps_lines l)) so_far.all,
      lines-append so_far.done (s ∷ left),
      length-append (step_lines s) (steps_lines left),
    )
