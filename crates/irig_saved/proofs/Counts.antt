-- The counts of a saved journal are bounded by its text.
use Rattle.std.proofs.Common.{◌≡◌, ◌<◌, ◌≤◌, ◌^◌, ◌++◌, ◌∷◌, [], ℕ, List, length, codes, arith, length-append}
use Rattle.std.specs.List.{AllByRecursion}
use Rattle.irig_saved.specs.SavedText.{single_lines, singles_lines, change_lines, step_lines, steps_lines, mark_lines, counted_lines, saved_lines, journal_text}
use Rattle.irig_saved.specs.Ranges.{IsNumber, IsTime, IsSingle, IsChange, IsStep, AreSteps, IsSaved}
use Rattle.irig_saved.specs.declared.change.Change.TheVariants.{One, Group}
use Rattle.irig_saved.specs.{Numbers.NumbersOfChange, Numbers.NumbersOfSingle, Numbers.NumbersOfStep, declared.single.Single.Single}
use Rattle.irig_saved.specs.{declared.single.Single.TheVariants.Splice, declared.change.Change.Change, declared.saved.Saved.Saved}
use Rattle.irig_saved.specs.declared.step.SavedStep.{SavedStep}
use Rattle.irig_saved.proofs.{Rows.Row, Rows.length_next, Rows.single_row, Rows.step_row, Texts.length-pulse_lines, FaultLines.lines_fit}

-- parts in a row
module _ {X : Type 0} (lines : X → List (List ℕ)) (all : List X → List (List ℕ)) (row : Row lines all) where
  -- each has a line
  row_fits : ((x : X) → 0 < length (lines x)) → (xs : List X) → length xs ≤ length (all xs)
  row_fits some [] = omega arith
  row_fits some (x ∷ xs) = let more = row_fits some xs in omega (arith, more, some x, length_next lines all row x xs)

  -- parts with lawful numbers are lawful, if their lines are fewer than 2 ^ 64
  row_of_numbers : (Numbers Is : X → Type 0) → ((x : X) → IsNumber (length (lines x)) → Numbers x → Is x)
      → (xs : List X) → IsNumber (length (all xs)) → AllByRecursion Numbers xs → AllByRecursion Is xs
  row_of_numbers Numbers Is one [] few h = tt
  row_of_numbers Numbers Is one (x ∷ xs) few h =
      let sum = length_next lines all row x xs in
      (one x (omega (arith, few, sum)) h.0, row_of_numbers Numbers Is one xs (omega (arith, few, sum)) h.1)

-- changes

pub single_of_numbers : (x : Single) → IsNumber (length (single_lines x)) → NumbersOfSingle x → IsSingle x
single_of_numbers (Splice at count put) few h = (h.0, h.1, omega (arith, few, length-pulse_lines put), h.2)
single_of_numbers _ few h = h

pub change_of_numbers : (c : Change) → IsNumber (length (change_lines c)) → NumbersOfChange c → IsChange c
change_of_numbers (One x) few h = single_of_numbers x few h
change_of_numbers (Group xs) few h = (
  omega (arith, few, row_fits single_lines singles_lines single_row (λ x. omega arith) xs),
  row_of_numbers single_lines singles_lines single_row NumbersOfSingle IsSingle single_of_numbers xs (omega (arith, few)) h,
)

-- steps

pub step_of_numbers : (t : SavedStep) → IsNumber (length (step_lines t)) → NumbersOfStep t → IsStep t
step_of_numbers t few h = (h.0, change_of_numbers t.change (omega (arith, few)) h.1)

pub steps_of_numbers : (ss : List SavedStep) → IsNumber (length (steps_lines ss)) → AllByRecursion NumbersOfStep ss → AreSteps ss
steps_of_numbers ss few h = (
  omega (arith, few, row_fits step_lines steps_lines step_row (λ s. omega arith) ss),
  row_of_numbers step_lines steps_lines step_row NumbersOfStep IsStep step_of_numbers ss few h,
)

-- a journal

lines_of_text : (s : Saved) → length (saved_lines s) ≤ length (journal_text s)
unfolding journal_text
lines_of_text s = lines_fit (saved_lines s)

-- the lines of the past and of the future are among them
sum_of_lines : (s : Saved) → (length (steps_lines s.past) ≤ length (saved_lines s)) × (length (steps_lines s.future) ≤ length (saved_lines s))
sum_of_lines s =
    let past = counted_lines (codes "past") s.past in
    let future = counted_lines (codes "future") s.future in
    let all = length-append (mark_lines 97 s.marks ++ past) future in
    let front = length-append (mark_lines 97 s.marks) past in
    (omega (arith, all, front), omega (arith, all))

pub saved_of_parts : (s : Saved) → length (journal_text s) < 2 ^ 64 → s.expression ≤ 7 → IsNumber s.cursor → length s.marks ≡ 26 → AllByRecursion IsTime s.marks
    → AllByRecursion NumbersOfStep s.past → AllByRecursion NumbersOfStep s.future → IsSaved s
saved_of_parts s small expression cursor letters marks past future =
    let lines = lines_of_text s in
    let parts = sum_of_lines s in
    record {
      expression = expression;
      cursor = cursor;
      letters = letters;
      marks = marks;
      past = steps_of_numbers s.past (omega (arith, small, lines, parts.0)) past;
      future = steps_of_numbers s.future (omega (arith, small, lines, parts.1)) future;
    }
