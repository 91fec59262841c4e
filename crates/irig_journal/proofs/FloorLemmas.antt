-- What the calls of a journal make of the machine with a floor.
use Rattle.std.proofs.Common.{◌≡◌, ◌∷◌, ◌+◌, ◌-◌, ◌<◌, ◌≤◌, ◌++◌, [], ℕ, suc, false, List, Option, Some, None, length, drop, refl, ap, ap₂, sym, ◌∙◌, arith}
use Rattle.std.specs.Prelude.{option_map}
use Rattle.std.proofs.lemmas.{Bool.lt-leb, List.drop_at, List.length-take-le, Option.none-some}
use Rattle.irig_journal.specs.Groups.{Floor, Grouped, aborted, begun, ended, over, is_at_floor, undone_over, redone_over}
use Rattle.irig_journal.specs.History.{History, Step, machine, states_along, step, stepped_back}
use Rattle.irig_journal.specs.Joining.{beyond, changes_of, cursor_of_farthest, farthest, joined, joined_beyond}
use Rattle.irig_journal.specs.Machine.{Kept, Machine, kept, undone, redone}
use Rattle.irig_journal.specs.{declared.opening.Opening.Opening, Journal.Steps, Openings.AtFloor, Openings.StandsOnFloor, Openings.floor_at, Turns.left_by}
use Rattle.irig_journal.proofs.{StepLemmas.history, JoinLemmas.at_most_cases, JoinLemmas.beyond-farthest, JoinLemmas.beyond_more, JoinLemmas.beyond_none}

module _ {S : Type 0} where
  abbrev pub machine_of_states : List (Kept S) → Kept S → List (Kept S) → Machine (Kept S)
  machine_of_states past present future = record { past = past; present = present; future = future }

  abbrev pub with_present : ℕ → S → ℕ → Floor (Kept S)
  with_present n t cursor = record { height = n; present = kept t cursor }

  -- an undo that stays above the floor
  pub undone_over_by : (m n : Machine (Kept S)) (floor floor_after : Option (Floor (Kept S)))
      → is_at_floor floor m.past ≡ false → undone m ≡ Some n → floor ≡ floor_after
      → undone_over (over floor m) ≡ Some (over floor_after n)
  undone_over_by m n floor floor_after above went same = rw (above, went, same) refl

  pub redone_over_by : (m n : Machine (Kept S)) (floor floor_after : Option (Floor (Kept S)))
      → redone m ≡ Some n → floor ≡ floor_after
      → redone_over (over floor m) ≡ Some (over floor_after n)
  redone_over_by m n floor floor_after went same = rw (went, same) refl

-- where the open group of a journal was begun
abbrev pub floor_in : {C : Type 0} → Steps C → Option Opening
floor_in j = j.floor

-- a group begun so high, at this cursor
abbrev pub opening : ℕ → ℕ → Opening
opening n cursor = record { steps = n; cursor = cursor }

module _ {S D : Type 0} where
  pub length-states : (turned : S → D → S × D) (s : S) (steps : List (Step D))
      → length (states_along turned s steps) ≡ length steps
  length-states turned s [] = refl
  length-states turned s (near ∷ steps) = ap suc (length-states turned (turned s near.change).0 steps)

  states-append : (turned : S → D → S × D) (s : S) (near rest : List (Step D))
      → states_along turned s (near ++ rest)
      ≡ states_along turned s near ++ states_along turned (left_by turned s (changes_of near)) rest
  states-append turned s [] rest = refl
  states-append turned s (d ∷ near) rest =
      ap (λ l. kept (turned s d.change).0 d.cursor ∷ l)
      (states-append turned (turned s d.change).0 near rest)

  -- of states beyond the farthest the oldest
  states-oldest : (turned : S → D → S × D) (s : S) (first : Step D) (near rest : List (Step D))
      → drop (length near) (states_along turned s (first ∷ (near ++ rest)))
      ≡ kept (left_by turned s (changes_of (first ∷ near))) (cursor_of_farthest first.cursor near)
      ∷ states_along turned (left_by turned s (changes_of (first ∷ near))) rest
  states-oldest turned s first [] rest = refl
  states-oldest turned s first (next ∷ near) rest =
      states-oldest turned (turned s first.change).0 next near rest

  -- after an abort the past is that of the begin
  pub past_aborted : (turned : S → D → S × D) (s : S) (n : ℕ) (steps : List (Step D))
      → drop (length (states_along turned s steps) - n) (states_along turned s steps)
      ≡ states_along turned (left_by turned s (changes_of (beyond n steps))) (farthest n steps)
  past_aborted turned s n steps =
      let near = beyond n steps in
      let rest = farthest n steps in
      let parts : states_along turned s steps
      ≡ states_along turned s near ++ states_along turned (left_by turned s (changes_of near)) rest =
      ap (states_along turned s) (sym (beyond-farthest n steps)) ∙ states-append turned s near rest in
      let long : length (states_along turned s near) ≡ length (states_along turned s steps) - n =
      length-states turned s near
      ∙ (length-take-le (length steps - n) steps (omega arith)
      ∙ ap (λ (k : ℕ). k - n) (sym (length-states turned s steps))) in
      ap (drop (length (states_along turned s steps) - n)) parts
      ∙ drop_at (states_along turned s near) _ (length (states_along turned s steps) - n) long

  joined_past : (turned : S → D → S × D) (gathered : List D → D) (s : S) (near rest : List (Step D)) (k : ℕ)
      → length near ≡ suc k
      → (turned s (gathered (changes_of near))).0 ≡ left_by turned s (changes_of near)
      → drop k (states_along turned s (near ++ rest))
      ≡ states_along turned s (joined gathered near ∷ rest)
  joined_past turned gathered s [] rest k long same = absurd (omega arith)
  joined_past turned gathered s (first ∷ near) rest k long same =
      let count : k ≡ length near = omega arith in
      let cursor = cursor_of_farthest first.cursor near in
      ap (λ (n : ℕ). drop n (states_along turned s (first ∷ (near ++ rest)))) count
      ∙ (states-oldest turned s first near rest
      ∙ ap (λ (t : S). kept t cursor ∷ states_along turned t rest) (sym same))

  -- after an end the oldest state of the group is left of it
  pub past_ended : (turned : S → D → S × D) (gathered : List D → D) (s : S) (n : ℕ) (steps : List (Step D))
      → (n + 1 < length steps
      → (turned s (gathered (changes_of (beyond n steps)))).0 ≡ left_by turned s (changes_of (beyond n steps)))
      → drop (length (states_along turned s steps) - n - 1) (states_along turned s steps)
      ≡ states_along turned s (joined_beyond gathered n steps)
  past_ended turned gathered s n steps same =
      let states = states_along turned s steps in
      let k = length steps - n - 1 in
      let whole : length steps ≤ n + 1 → drop k states ≡ states = λ few.
      let none : k ≡ 0 = omega (arith, few) in ap (λ (j : ℕ). drop j states) none in
      let fewer : n + 1 < length steps → drop k states ≡ states_along turned s (joined gathered (beyond n steps) ∷ farthest n steps) = λ many.
      let count : length (beyond n steps) ≡ suc k = length-take-le (length steps - n) steps (omega arith) ∙ omega (arith, many) in
      ap (λ (l : List (Step D)). drop k (states_along turned s l)) (sym (beyond-farthest n steps))
      ∙ joined_past turned gathered s (beyond n steps) (farthest n steps) k count (same many) in
      ap (λ (j : ℕ). drop (j - n - 1) states) (length-states turned s steps)
      ∙ at_most_cases (λ (l : List (Step D)). drop k states ≡ states_along turned s l) (length steps) (n + 1) steps
      (joined gathered (beyond n steps) ∷ farthest n steps) whole fewer

  -- a step more does not move the floor, if it leads to the state of the others
  pub floor_kept : (turned : S → D → S × D) (o : Option Opening) (s after : S) (near : Step D)
      (past more : List (Step D)) → more ≡ near ∷ past → (turned after near.change).0 ≡ s
      → StandsOnFloor o (length past)
      → option_map (floor_at turned after more) o ≡ option_map (floor_at turned s past) o
  floor_kept turned None s after near past more longer back stands = refl
  floor_kept turned (Some o) s after near past more longer back stands =
      let n = o.steps in
      let deeper : beyond n more ≡ near ∷ beyond n past = ap (beyond n) longer ∙ beyond_more n near past stands in
      let there : left_by turned after (changes_of (beyond n more)) ≡ left_by turned s (changes_of (beyond n past)) =
      ap (λ (l : List (Step D)). left_by turned after (changes_of l)) deeper
      ∙ ap (λ (t : S). left_by turned t (changes_of (beyond n past))) back in
      ap (λ (t : S). Some (with_present n t o.cursor)) there

  -- the past goes back beyond the floor
  pub not_at_floor : (turned : S → D → S × D) (o : Option Opening) (s : S) (past : List (Step D))
      → (AtFloor o (length past) → ⊥)
      → is_at_floor (option_map (floor_at turned s past) o) (states_along turned s past) ≡ false
  not_at_floor turned None s past above = refl
  not_at_floor turned (Some o) s past above =
      lt-leb (length (states_along turned s past)) o.steps
      (omega (arith, length-states turned s past, above))

  -- what a step back did
  pub record SteppedBack (turned : S → D → S × D) (s after : S) (from left : List (Step D))
      (cursor : ℕ) (to more : List (Step D)) : Type 0 where
    pub near : Step D
    pub parts : from ≡ near ∷ left
    pub state : (turned s near.change).0 ≡ after
    pub longer : more ≡ step (turned s near.change).1 cursor ∷ to

  pub stepped_back-parts : (turned : S → D → S × D) (s after : S) (cursor place : ℕ)
      (from left to more : List (Step D))
      → stepped_back turned (history s cursor from to) ≡ Some (history after place left more)
      → SteppedBack turned s after from left cursor to more
  stepped_back-parts turned s after cursor place [] left to more went = absurd (none-some _ went)
  stepped_back-parts turned s after cursor place (near ∷ rest) left to more went =
      let same : history (turned s near.change).0 near.cursor rest (step (turned s near.change).1 cursor ∷ to)
      ≡ history after place left more = cc in
      record {
        near = near;
        parts = ap (λ (h : History S D). near ∷ h.past) same;
        state = ap (λ (h : History S D). h.state) same;
        longer = sym (ap (λ (h : History S D). h.future) same);
      }

-- a past that is longer than the floor's length still reaches it with a step less
pub stands_below : (o : Option Opening) (n m : ℕ) → (AtFloor o n → ⊥) → n ≡ suc m → StandsOnFloor o m
stands_below None n m above longer = tt
stands_below (Some o) n m above longer = omega (arith, above)

module _ {S D : Type 0} where
  -- an edit leaves the floor where it was
  pub recorded_by : (turned : S → D → S × D) (o : Option Opening) (s after : S) (d back : D) (cursor place : ℕ)
      (past more : List (Step D)) → (after, back) ≡ turned s d
      → turned (turned s d).0 (turned s d).1 ≡ (s, d)
      → more ≡ step back cursor ∷ past → StandsOnFloor o (length past)
      → over (option_map (floor_at turned after more) o)
      (machine_of_states (states_along turned after more) (kept after place) [])
      ≡ over (option_map (floor_at turned s past) o)
      (machine_of_states (kept s cursor ∷ states_along turned s past) (kept (turned s d).0 place) [])
  recorded_by turned o s after d back cursor place past more turn law longer stands =
      let home : (turned after back).0 ≡ s =
      ap (λ (p : S × D). (turned p.0 p.1).0) turn ∙ ap (λ (p : S × D). p.0) law in
      let there : after ≡ (turned s d).0 = ap (λ (p : S × D). p.0) turn in
      let states : states_along turned after more ≡ kept s cursor ∷ states_along turned s past =
      ap (states_along turned after) longer
      ∙ ap (λ (t : S). kept t cursor ∷ states_along turned t past) home in
      ap₂ (λ (f : Option (Floor (Kept S))) (m : Machine (Kept S)). over f m)
      (floor_kept turned o s after (step back cursor) past more longer home stands)
      (ap₂ (λ (l : List (Kept S)) (t : S). machine_of_states l (kept t place) []) states there)

module _ {S D : Type 0} where
  -- the machine of these steps, with its floor
  abbrev pub grouped_at : (S → D → S × D) → S → ℕ → List (Step D) → List (Step D) → Option Opening
      → Grouped (Kept S)
  grouped_at turned s cursor past future floor =
      over (option_map (floor_at turned s past) floor) (machine turned (history s cursor past future))

  -- a group begun here has the present as its floor
  pub begun_by : (turned : S → D → S × D) (s : S) (cursor n : ℕ) (past future : List (Step D))
      → n ≡ length past
      → begun (grouped_at turned s cursor past future None)
      ≡ Some (grouped_at turned s cursor past future (Some (opening n cursor)))
  begun_by turned s cursor n past future long =
      let height : length (states_along turned s past) ≡ n = length-states turned s past ∙ sym long in
      let none : beyond n past ≡ [] = beyond_none n past (omega (arith, long)) in
      ap₂ (λ (k : ℕ) (l : List (Step D)). Some (over (Some (with_present k (left_by turned s (changes_of l)) cursor))
      (machine turned (history s cursor past future))))
      height (sym none)

  pub ended_by : (turned : S → D → S × D) (gathered : List D → D) (s : S) (cursor : ℕ)
      (past left future : List (Step D)) (o : Opening)
      → left ≡ joined_beyond gathered o.steps past
      → (o.steps + 1 < length past
      → (turned s (gathered (changes_of (beyond o.steps past)))).0 ≡ left_by turned s (changes_of (beyond o.steps past)))
      → ended (grouped_at turned s cursor past future (Some o))
      ≡ Some (grouped_at turned s cursor left future None)
  ended_by turned gathered s cursor past left future o joins same =
      ap (λ (l : List (Kept S)). Some (over None (machine_of_states l (kept s cursor) (states_along turned s future))))
      (past_ended turned gathered s o.steps past same ∙ ap (states_along turned s) (sym joins))

  pub aborted_by : (turned : S → D → S × D) (s after : S) (cursor place : ℕ)
      (past left future none : List (Step D)) (o : Opening)
      → after ≡ left_by turned s (changes_of (beyond o.steps past))
      → left ≡ farthest o.steps past → place ≡ o.cursor → none ≡ []
      → aborted (grouped_at turned s cursor past future (Some o))
      ≡ Some (grouped_at turned after place left none None)
  aborted_by turned s after cursor place past left future none o there rest at empty =
      rw (there, rest, at, empty)
      (ap (λ (l : List (Kept S)). Some (over None (machine_of_states l (kept (left_by turned s (changes_of (beyond o.steps past))) o.cursor) [])))
      (past_aborted turned s o.steps past))
