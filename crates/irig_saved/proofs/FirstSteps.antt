-- The first lines of a journal that has a step.
use Rattle.std.proofs.Common.{◌≡◌, ◌≤◌, ◌<◌, ◌+◌, ◌++◌, ◌∷◌, [], ℕ, suc, zero, List, Option, length, take, drop, codes, refl, sym, ap, subst, ◌∙◌, append_assoc}
use Rattle.std.proofs.Common.{arith, length-append}
use Rattle.std.specs.List.{AllByRecursion}
use Rattle.std.proofs.lemmas.List.{take-append-le, take-append-drop}
use Rattle.irig_codes.specs.declared.format.Kind.{Kind}
use Rattle.irig_saved.specs.SavedText.{change_lines, counted_lines, mark_lines, saved_lines, step_lines, steps_lines}
use Rattle.irig_saved.specs.{Lines.numbered, Lines.text_of, Ranges.IsNumber, Ranges.IsSaved, Ranges.IsStep, Ranges.AreSteps, Ranges.ManySteps, Values.IsFormat}
use Rattle.irig_saved.specs.{Reading.Reads, Leading.BeginsSome, Leading.BeginsStep, Leading.BeginsSteps, Leading.Leads, Leading.head_text, Faults.Begins}
use Rattle.irig_saved.specs.{Faults.ReachesSteps, declared.change.Change.TheVariants.One, declared.saved.Saved.Saved, declared.step.SavedStep.SavedStep}
use Rattle.irig_saved.proofs.ChangeParts.{no_steps_lawful, onward, step_family}
use Rattle.irig_saved.proofs.SavedParts.{cursor_line, format_line, head_same}
use Rattle.irig_saved.proofs.{Unique.regroup, Repeats.so_many, SingleParts.no_change, SingleParts.no_change_lawful, MarkParts.lead_same, MarkParts.lead_times}

-- the first line of a step

abbrev at_line : ℕ → List ℕ
at_line n = numbered (codes "at") (n ∷ [])

pub begins_step : (text l mid : List ℕ) (n : ℕ) → text ≡ l ++ 10 ∷ mid → IsNumber n → l ≡ at_line n → BeginsStep text
begins_step text l mid n cut h e = record { cursor = n; number = h; more = mid; same = cut ∙ ap (λ (w : List ℕ). w ++ 10 ∷ mid) e }

pub step_begins : (text rest : List ℕ) (s : SavedStep) → Reads IsStep step_lines text s rest → BeginsStep text
step_begins text rest s r = record {
  cursor = s.cursor;
  number = r.lawful.0;
  more = text_of (change_lines s.change) ++ rest;
  same = r.same ∙ append_assoc (at_line s.cursor) (10 ∷ text_of (change_lines s.change)) rest;
}

-- the first of several
pub steps_begin : (k : ℕ) (text : List ℕ) (done : List SavedStep) (mid : List ℕ) → Reads (ManySteps k) steps_lines text done mid
    → BeginsStep mid → BeginsStep text
steps_begin k text [] mid r b = let P : List ℕ → Type 0 = λ t. BeginsStep t in subst P (sym r.same) b
steps_begin k text (d ∷ ds) mid r b =
    step_begins text (text_of (steps_lines ds) ++ mid) d
    (record { lawful = r.lawful.1.0; same = r.same ∙ regroup (step_lines d) (steps_lines ds) mid })

pub counted_begins : (head text l mid : List ℕ) (n : ℕ) → text ≡ l ++ 10 ∷ mid → IsNumber n → l ≡ numbered head (n ∷ [])
    → BeginsSome n mid → BeginsSteps head text
counted_begins head text l mid n cut h e some =
    record { count = n; number = h; mid = mid; same = cut ∙ ap (λ (w : List ℕ). w ++ 10 ∷ mid) e; some = some }

-- this many steps; the first has a cursor
record Many (cursor count : ℕ) : Type 0 where
  steps : List SavedStep
  others : List (List ℕ)
  long : length steps ≡ count
  lawful : AllByRecursion IsStep steps
  lines : steps_lines steps ≡ at_line cursor ∷ others

many : (cursor count : ℕ) → IsNumber cursor → 0 < count → Many cursor count
many cursor zero h some = absurd (omega (arith, some))
many cursor (suc n) h some =
    let more = so_many IsStep step_lines steps_lines step_family n in
    record {
      steps = record { cursor = cursor; change = One no_change } ∷ more.0;
      others = change_lines (One no_change) ++ steps_lines more.0;
      long = ap suc more.1.0;
      lawful = ((h, no_change_lawful), more.1.1);
      lines = refl;
    }

-- this many lines of those that are there
begins_by : (n : ℕ) (ls others : List (List ℕ)) (bytes rest : List ℕ) → n ≤ length ls → bytes ≡ text_of ls ++ rest → Begins n (ls ++ others) bytes
begins_by n ls others bytes rest few e = record {
  there = omega (arith, few, length-append ls others);
  rest = text_of (drop n ls) ++ rest;
  same = e
      ∙ (ap (λ (l : List (List ℕ)). text_of l ++ rest) (sym (take-append-drop n ls))
      ∙ (regroup (take n ls) (drop n ls) rest
      ∙ ap (λ (l : List (List ℕ)). text_of l ++ (text_of (drop n ls) ++ rest)) (sym (take-append-le n ls others few))));
}

-- the head, and what is after it
reached : (text placed rest : List ℕ) (s : Saved) (ls others : List (List ℕ)) → IsSaved s → 0 < length s.past + length s.future
    → text ≡ head_text (s.kind, s.expression) s.cursor placed
    → mark_lines 97 s.marks ++ counted_lines (codes "past") s.past ++ counted_lines (codes "future") s.future ≡ ls ++ others
    → placed ≡ text_of ls ++ rest → 2 + length (mark_lines 97 s.marks) ≤ length ls → ReachesSteps text
reached text placed rest s ls others lawful some head lines same long =
    let whole = codes "irig-journal-1" ∷ format_line (s.kind, s.expression) ∷ cursor_line s.cursor ∷ ls in
    let stands : text ≡ text_of whole ++ rest = head_same text placed rest (s.kind, s.expression) s.cursor ls head same in
    let all : whole ++ others ≡ saved_lines s =
    ap (λ (l : List (List ℕ)). codes "irig-journal-1" ∷ format_line (s.kind, s.expression) ∷ cursor_line s.cursor ∷ l) (sym lines) in
    let n = 5 + length (mark_lines 97 s.marks) in
    let few : n ≤ length whole = omega (arith, long) in
    let P : List (List ℕ) → Type 0 = λ l. Begins n l text in
    record { saved = s; lawful = lawful; some = some; begins = subst P all (begins_by n whole others text rest few stands) }

-- the line of a number, and the first of the steps that it counts
counted_same : (head text : List ℕ) (b : BeginsSteps head text) (ss : List SavedStep) → length ss ≡ b.count
    → text ≡ text_of (numbered head (length ss ∷ []) ∷ at_line b.some.1.cursor ∷ []) ++ b.some.1.more
counted_same head text b ss long =
    onward text (numbered head (b.count ∷ [])) b.mid (numbered head (length ss ∷ [])) b.some.1.more (at_line b.some.1.cursor ∷ []) b.same
    (ap (λ n. numbered head (n ∷ [])) (sym long))
    (b.some.1.same ∙ sym (append_assoc (at_line b.some.1.cursor) (10 ∷ []) b.some.1.more))

-- the steps back are reached
pub past_reached : (text placed marked : List ℕ) (kind : Kind) (expression cursor : ℕ) (ms : List (Option ℕ))
    → text ≡ head_text (kind, expression) cursor placed → IsFormat (kind, expression) → IsNumber cursor → length ms ≡ 26 → Leads 97 ms placed marked
    → BeginsSteps (codes "past") marked → ReachesSteps text
past_reached text placed marked kind expression cursor ms head small number letters leads b =
    let steps = many b.some.1.cursor b.count b.some.1.number b.some.0 in
    let s : Saved = record { kind = kind; expression = expression; cursor = cursor; marks = ms; past = steps.steps; future = [] } in
    let marks = mark_lines 97 ms in
    let first = numbered (codes "past") (length steps.steps ∷ []) ∷ at_line b.some.1.cursor ∷ [] in
    let future = counted_lines (codes "future") [] in
    let lawful : IsSaved s = record {
      expression = small;
      cursor = number;
      letters = letters;
      marks = lead_times 97 ms placed marked leads;
      past = (subst IsNumber (sym steps.long) b.number, steps.lawful);
      future = no_steps_lawful;
    } in
    let lines : marks ++ counted_lines (codes "past") steps.steps ++ future ≡ (marks ++ first) ++ (steps.others ++ future) =
    ap (λ (l : List (List ℕ)). marks ++ (numbered (codes "past") (length steps.steps ∷ []) ∷ l) ++ future) steps.lines
    ∙ (append_assoc marks (first ++ steps.others) future
    ∙ (sym (append_assoc marks first (steps.others ++ future)))) in
    reached text placed b.some.1.more s (marks ++ first) (steps.others ++ future) lawful (omega (arith, steps.long, b.some.0)) head lines
    (lead_same 97 ms placed marked leads ∙ (ap (λ (l : List ℕ). text_of marks ++ l) (counted_same (codes "past") marked b steps.steps steps.long)
    ∙ sym (regroup marks first b.some.1.more)))
    (omega (arith, length-append marks first))

-- the steps forward are reached
pub future_reached : (text placed marked : List ℕ) (kind : Kind) (expression cursor : ℕ) (ms : List (Option ℕ)) (undone : List ℕ)
    (past : List SavedStep)
    → text ≡ head_text (kind, expression) cursor placed → IsFormat (kind, expression) → IsNumber cursor → length ms ≡ 26 → Leads 97 ms placed marked
    → Reads AreSteps (counted_lines (codes "past")) marked past undone
    → BeginsSteps (codes "future") undone → ReachesSteps text
future_reached text placed marked kind expression cursor ms undone past head small number letters leads r b =
    let steps = many b.some.1.cursor b.count b.some.1.number b.some.0 in
    let s : Saved = record { kind = kind; expression = expression; cursor = cursor; marks = ms; past = past; future = steps.steps } in
    let marks = mark_lines 97 ms in
    let before = counted_lines (codes "past") past in
    let first = numbered (codes "future") (length steps.steps ∷ []) ∷ at_line b.some.1.cursor ∷ [] in
    let lawful : IsSaved s = record {
      expression = small;
      cursor = number;
      letters = letters;
      marks = lead_times 97 ms placed marked leads;
      past = r.lawful;
      future = (subst IsNumber (sym steps.long) b.number, steps.lawful);
    } in
    let lines : marks ++ before ++ counted_lines (codes "future") steps.steps ≡ (marks ++ before ++ first) ++ steps.others =
    ap (λ (l : List (List ℕ)). marks ++ before ++ (numbered (codes "future") (length steps.steps ∷ []) ∷ l)) steps.lines
    ∙ sym (append_assoc (marks ++ before) first steps.others) in
    reached text placed b.some.1.more s (marks ++ before ++ first) steps.others lawful (omega (arith, steps.long, b.some.0)) head lines
    (lead_same 97 ms placed marked leads
    ∙ (ap (λ (l : List ℕ). text_of marks ++ l) (r.same ∙ ap (λ (l : List ℕ). text_of before ++ l)
    (counted_same (codes "future") undone b steps.steps steps.long))
    ∙ (sym (regroup marks before (text_of first ++ b.some.1.more)) ∙ sym (regroup (marks ++ before) first b.some.1.more))))
    (omega (arith, length-append (marks ++ before) first, length-append marks before))
