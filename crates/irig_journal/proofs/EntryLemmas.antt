-- Several entries made one: the steps that they are before, and the one step after.
use Rattle.std.proofs.Common.{◌≡◌, ◌∷◌, ◌+◌, ◌<◌, ◌≤◌, ◌++◌, [], ℕ, suc, List, length, map, take, drop, get_or, reverse, refl, ap, ap₂, sym, subst, ◌∙◌, arith}
use Rattle.std.proofs.Math.Seq.{drop-cons}
use Rattle.std.proofs.lemmas.List.{length-map, length-reverse, length-take-le, map-append, reverse-append, take-append-drop}
use Rattle.std.proofs.lemmas.List.Folds.{flat_map-map}
use Rattle.irig_journal.specs.Held.{Group, HaveAll, Held, Parts, flat, held, held_by, held_in, parts_in}
use Rattle.irig_journal.specs.Joining.{beyond, changes_of, cursor_of_farthest, farthest, joined, joined_beyond}
use Rattle.irig_journal.specs.Sizes.{count_of, counts_of, ended_beyond, entry, joined_as}
use Rattle.irig_journal.specs.{declared.entry.Entry.Entry, History.FitInTurn, History.Step, History.step, Journal.told, Turns.left_by}
use Rattle.irig_journal.specs.declared.size.Size.TheVariants as size
use Rattle.irig_journal.proofs.HeldLemmas.{counts-append, counts-cons, counts-reverse, flat-held, held_by-append, held_by-cons, length-held, reverse-push}
use Rattle.irig_journal.proofs.JoinLemmas.{at_most_cases, beyond_at, farthest_at, fit_joined}
use Rattle.irig_journal.proofs.{MoveLemmas.Gathers, SideLemmas.length-told}

module _ {C : Type 0} where
  -- the steps before and after: the first became one group of their changes
  pub record JoinedHeld (cs : List C) (es : List Entry) (n cursor : ℕ) : Type 0 where
    pub near : List C
    pub left : List C
    pub before : held_in cs es ≡ held_by near (reverse (drop n es)) ++ held_by left (reverse (take n es))
    pub after : held_in cs (joined_as n cursor es) ≡ held (Group near) cursor ∷ held_by left (reverse (take n es))
    pub all : flat (held_by near (reverse (drop n es))) ≡ near

  pub joined_held : (cs : List C) (es : List Entry) (n cursor : ℕ) → HaveAll cs es → JoinedHeld cs es n cursor
  joined_held cs es n cursor all =
      let k = counts_of (drop n es) in
      let near = take k (reverse cs) in
      let left = drop k (reverse cs) in
      let parts = counts-append (take n es) (drop n es) in
      let whole = ap counts_of (take-append-drop n es) in
      let low : k ≤ length (reverse cs) = omega (arith, all, parts, whole, length-reverse cs) in
      let long : length near ≡ k = length-take-le k (reverse cs) low in
      let same : counts_of (reverse (drop n es)) ≡ length near = counts-reverse (drop n es) ∙ sym long in
      let apart : reverse cs ≡ near ++ left = sym (take-append-drop k (reverse cs)) in
      record {
        near = near;
        left = left;
        before = ap₂ (λ (l : List C) (m : List Entry). held_by l m) apart
            (ap reverse (sym (take-append-drop n es)) ∙ reverse-append (take n es) (drop n es))
            ∙ held_by-append near left (reverse (drop n es)) (reverse (take n es)) same;
        after = ap₂ (λ (l : List C) (m : List Entry). held_by l m) apart
            (reverse-push (joined_as n cursor es) (take n es) (entry (size.Group k) cursor) refl)
            ∙ held_by-cons near left (entry (size.Group k) cursor) (reverse (take n es)) long;
        all = flat-held near (reverse (drop n es)) same;
      }

  -- the entries still have all the changes
  pub whole_joined : (cs : List C) (es : List Entry) (n cursor : ℕ) → HaveAll cs es → HaveAll cs (joined_as n cursor es)
  whole_joined cs es n cursor all =
      let one = entry (size.Group (counts_of (drop n es))) cursor in
      omega (arith, all, counts-append (take n es) (one ∷ []), counts-cons one [], counts-append (take n es) (drop n es), ap counts_of (take-append-drop n es))

-- what holds of the list as it is, and of the list with those after the farthest made one, holds after an end
pub ended_cases : (P : List Entry → Type 0) (n : ℕ) (es : List Entry)
    → (length es ≤ n + 1 → P es)
    → (n + 1 < length es → P (joined_as n (get_or es n (entry size.Alone 0)).cursor es))
    → P (ended_beyond n es)
ended_cases P n es few many =
    at_most_cases P (length es) (n + 1) es (joined_as n (get_or es n (entry size.Alone 0)).cursor es) few many

module _ {C D : Type 0} where
  -- a group of the changes of steps is what the steps are, gathered
  pub group_of_steps : (delta : Parts C → D) (gathered : List D → D) → Gathers delta gathered → (hs : List (Held C))
      → delta (Group (flat hs)) ≡ gathered (changes_of (map (told delta) hs))
  group_of_steps delta gathered gathers hs =
      ap (λ (l : List C). delta (Group l)) (sym (flat_map-map parts_in (λ (h : Held C). h.parts) hs))
      ∙ (gathers (map (λ h. h.parts) hs) ∙ ap gathered (changes_told hs)) where
        changes_told : (hs : List (Held C)) → map delta (map (λ h. h.parts) hs) ≡ changes_of (map (told delta) hs)
        changes_told [] = refl
        changes_told (h ∷ hs) = ap (λ (l : List D). delta h.parts ∷ l) (changes_told hs)

  -- the farthest step has the last cursor
  pub cursor_last : (delta : Parts C → D) (a : ℕ) (cs : List C) (es : List Entry) (e : Entry)
      → cursor_of_farthest a (map (told delta) (held_by cs (es ++ e ∷ []))) ≡ e.cursor
  cursor_last delta a cs [] e = refl
  cursor_last delta a cs (f ∷ es) e = cursor_last delta f.cursor (drop (count_of f.size) cs) es e

  -- after some became one, the steps are the joined one and the farthest
  pub joined_steps : (delta : Parts C → D) (gathered : List D → D) → Gathers delta gathered → (cs : List C) (es : List Entry) (n cursor : ℕ)
      → n ≤ length es → HaveAll cs es
      → map (told delta) (held_in cs (joined_as n cursor es))
      ≡ step (gathered (changes_of (beyond n (map (told delta) (held_in cs es))))) cursor ∷ farthest n (map (told delta) (held_in cs es))
  joined_steps delta gathered gathers cs es n cursor low all =
      let j = joined_held cs es n cursor all in
      let first = held_by j.near (reverse (drop n es)) in
      let rest = held_by j.left (reverse (take n es)) in
      let steps : map (told delta) (held_in cs es) ≡ map (told delta) first ++ map (told delta) rest =
      ap (map (told delta)) j.before ∙ map-append (told delta) first rest in
      let long : length (map (told delta) rest) ≡ n =
      length-map rest (told delta) ∙ (length-held j.left (reverse (take n es)) ∙ (length-reverse (take n es) ∙ length-take-le n es low)) in
      let near = beyond_at (map (told delta) (held_in cs es)) (map (told delta) first) (map (told delta) rest) n steps long in
      let far = farthest_at (map (told delta) (held_in cs es)) (map (told delta) first) (map (told delta) rest) n steps long in
      let one : delta (Group j.near) ≡ gathered (changes_of (beyond n (map (told delta) (held_in cs es)))) =
      ap (λ (l : List C). delta (Group l)) (sym j.all)
      ∙ (group_of_steps delta gathered gathers first ∙ ap (λ (l : List (Step D)). gathered (changes_of l)) (sym near)) in
      ap (map (told delta)) j.after ∙ ap₂ (λ (d : D) (l : List (Step D)). step d cursor ∷ l) one (sym far)

  -- and the cursor of an end is that of the farthest of them
  pub cursor_beyond : (delta : Parts C → D) (cs : List C) (es : List Entry) (n : ℕ) → n < length es → HaveAll cs es
      → (get_or es n (entry size.Alone 0)).cursor ≡ cursor_of_farthest 0 (beyond n (map (told delta) (held_in cs es)))
  cursor_beyond delta cs es n low all =
      let j = joined_held cs es n 0 all in
      let e = get_or es n (entry size.Alone 0) in
      let first = held_by j.near (reverse (drop n es)) in
      let rest = held_by j.left (reverse (take n es)) in
      let steps : map (told delta) (held_in cs es) ≡ map (told delta) first ++ map (told delta) rest =
      ap (map (told delta)) j.before ∙ map-append (told delta) first rest in
      let long : length (map (told delta) rest) ≡ n =
      length-map rest (told delta) ∙ (length-held j.left (reverse (take n es)) ∙ (length-reverse (take n es) ∙ length-take-le n es (omega (arith, low)))) in
      let near = beyond_at (map (told delta) (held_in cs es)) (map (told delta) first) (map (told delta) rest) n steps long in
      let last : reverse (drop n es) ≡ reverse (drop (suc n) es) ++ e ∷ [] =
      ap reverse (drop-cons es n (entry size.Alone 0) low) ∙ reverse-append (e ∷ []) (drop (suc n) es) in
      sym (ap (cursor_of_farthest 0) near
      ∙ (ap (λ (l : List Entry). cursor_of_farthest 0 (map (told delta) (held_by j.near l))) last
      ∙ cursor_last delta 0 j.near (reverse (drop (suc n) es)) e))

module _ {D : Type 0} where
  -- steps that are more than one become one, and others stay
  pub joined_many : (gathered : List D → D) (n : ℕ) (steps : List (Step D)) → n + 1 < length steps
      → joined_beyond gathered n steps ≡ joined gathered (beyond n steps) ∷ farthest n steps
  joined_many gathered n steps many =
      let one = joined gathered (beyond n steps) ∷ farthest n steps in
      at_most_cases (λ (l : List (Step D)). l ≡ one) (length steps) (n + 1) steps one (λ few. absurd (omega (arith, few, many))) (λ _. refl)

  pub joined_few : (gathered : List D → D) (n : ℕ) (steps : List (Step D)) → length steps ≤ n + 1
      → joined_beyond gathered n steps ≡ steps
  joined_few gathered n steps few =
      let one = joined gathered (beyond n steps) ∷ farthest n steps in
      at_most_cases (λ (l : List (Step D)). l ≡ steps) (length steps) (n + 1) steps one (λ _. refl) (λ many. absurd (omega (arith, few, many)))

module _ {C D : Type 0} where
  -- the steps after an end
  pub ended_steps : (delta : Parts C → D) (gathered : List D → D) → Gathers delta gathered → (cs : List C) (es fs : List Entry) (n : ℕ)
      → fs ≡ ended_beyond n es → HaveAll cs es
      → map (told delta) (held_in cs fs) ≡ joined_beyond gathered n (map (told delta) (held_in cs es))
  ended_steps delta gathered gathers cs es fs n made all =
      let steps = map (told delta) (held_in cs es) in
      let long : length steps ≡ length es = length-told delta cs es in
      ap (λ (l : List Entry). map (told delta) (held_in cs l)) made
      ∙ ended_cases (λ (l : List Entry). map (told delta) (held_in cs l) ≡ joined_beyond gathered n steps) n es
      (λ few. sym (joined_few gathered n steps (omega (arith, few, long))))
      (λ many. joined_steps delta gathered gathers cs es n (get_or es n (entry size.Alone 0)).cursor (omega (arith, many)) all
      ∙ (ap (λ (k : ℕ). step (gathered (changes_of (beyond n steps))) k ∷ farthest n steps) (cursor_beyond delta cs es n (omega (arith, many)) all)
      ∙ sym (joined_many gathered n steps (omega (arith, many, long)))))

module _ {C : Type 0} where
  pub whole_ended : (cs : List C) (es fs : List Entry) (n : ℕ) → fs ≡ ended_beyond n es → HaveAll cs es → HaveAll cs fs
  whole_ended cs es fs n made all =
      subst (HaveAll cs) (sym made)
      (ended_cases (HaveAll cs) n es (λ few. all) (λ many. whole_joined cs es n (get_or es n (entry size.Alone 0)).cursor all))

module _ {S D : Type 0} where
  -- they fit
  pub fit_ended : (fits : S → D → Type 0) (turned : S → D → S × D) (gathered : List D → D) (s : S) (n : ℕ) (steps : List (Step D))
      → fits s (gathered (changes_of (beyond n steps)))
      → (turned s (gathered (changes_of (beyond n steps)))).0 ≡ left_by turned s (changes_of (beyond n steps))
      → FitInTurn fits turned s steps → FitInTurn fits turned s (joined_beyond gathered n steps)
  fit_ended fits turned gathered s n steps one same fit =
      at_most_cases (FitInTurn fits turned s) (length steps) (n + 1) steps (joined gathered (beyond n steps) ∷ farthest n steps)
      (λ _. fit) (λ _. fit_joined fits turned gathered s n steps one same fit)
