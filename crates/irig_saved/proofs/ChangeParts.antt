-- The lines of a change and of steps, whose first line has a number.
use Rattle.std.proofs.Common.{◌≡◌, ◌++◌, ◌∷◌, [], ℕ, List, length, decimal, codes, refl, sym, ap, subst, ◌∙◌, append_assoc, lit<, inl, inr, ◌⊎◌, arith}
use Rattle.irig_saved.specs.SavedText.{put_of, pulse_lines, single_lines, singles_lines, change_lines, step_lines, steps_lines, counted_lines}
use Rattle.irig_saved.specs.Ranges.{IsNumber, IsSingle, IsChange, IsStep, AreSingles, ManySteps, AreSteps}
use Rattle.irig_saved.specs.declared.change.Change.TheVariants.{One, Group}
use Rattle.irig_saved.specs.{Lines.line, Lines.numbered, Lines.text_of, ChangeWords.head_of, ChangeWords.words_of, ChangeWords.single_line, Reading.Reads}
use Rattle.irig_saved.specs.{Reading.Stops, Reading.Lacks, declared.single.Single.Single, declared.change.Change.Change, declared.step.SavedStep.SavedStep}
use Rattle.irig_saved.proofs.{Cuts.IsWord, Decimals.number_is_word, Decimals.same_number, SameWords.head_is_word, SameWords.word_at, SameWords.words_are_words}
use Rattle.irig_saved.proofs.{Unique.lined, Unique.no_group, Unique.same_step, Bytes.dark_lacks, Clean.newline, Clean.counted_lacks, Clean.first_lacks}
use Rattle.irig_saved.proofs.{Clean.step_clean, Carried.Differs, Carried.carried, Carried.first_line_stops, Carried.other_line, Carried.lineless, Rows.step_row}
use Rattle.irig_saved.proofs.{Repeats.Family, Sequences.Both, Sequences.both, Sequences.line_behind_stops, SingleParts.no_change, SingleParts.no_change_lawful}

-- a word and a number
abbrev number_line : List ℕ → ℕ → List ℕ
number_line head n = numbered head (n ∷ [])

abbrev number_lines : List ℕ → ℕ → List (List ℕ)
number_lines head n = number_line head n ∷ []

pub same_count : (h : List ℕ) → IsWord h → (m n : ℕ) → IsNumber m → IsNumber n → number_line h m ≡ number_line h n → m ≡ n
same_count h hh m n hm hn e =
    let l = lined h h (decimal m ∷ []) (decimal n ∷ []) [] [] [] [] hh hh (number_is_word m hm, tt) (number_is_word n hn, tt)
    (ap (λ (l : List ℕ). text_of (l ∷ []) ++ []) e) in
    same_number m n hm hn (word_at 0 _ _ l.words)

-- the first line, and the rest after it
pub onward : (text l mid line rest : List ℕ) (ls : List (List ℕ)) → text ≡ l ++ 10 ∷ mid → l ≡ line → mid ≡ text_of ls ++ rest
    → text ≡ text_of (line ∷ ls) ++ rest
onward text l mid line rest ls cut e more =
    cut ∙ ap (λ (w : List ℕ). w ++ 10 ∷ mid) e ∙ ap (λ (m : List ℕ). line ++ 10 ∷ m) more ∙ sym (append_assoc line (10 ∷ text_of ls) rest)

-- a group

abbrev group_lines : ℕ → List (List ℕ)
group_lines n = number_lines (codes "group") n

pub group_stops : (text l mid rest : List ℕ) (n : ℕ) → text ≡ l ++ 10 ∷ mid → Lacks 10 l → IsNumber n → l ≡ numbered (codes "group") (n ∷ [])
    → Stops (AreSingles n) singles_lines mid rest → Stops IsChange change_lines text rest
group_stops text l mid rest n cut whole hn e s =
    carried (Both IsNumber AreSingles group_lines singles_lines) IsChange (both IsNumber AreSingles group_lines singles_lines) change_lines text rest to from
    (line_behind_stops IsNumber AreSingles (number_line (codes "group")) singles_lines (λ m h. counted_lacks newline (codes "group") m refl h)
    (same_count (codes "group") refl) text l mid rest n cut hn e s) where
      to : (p : ℕ × List Single) → Both IsNumber AreSingles group_lines singles_lines p
          → (z : Change) × IsChange z × (change_lines z ≡ both IsNumber AreSingles group_lines singles_lines p)
      to p h = (Group p.1, (subst IsNumber (sym h.1.0) h.0, h.1.1), ap (λ m. number_line (codes "group") m ∷ singles_lines p.1) h.1.0)

      other : (x : Single) → IsSingle x → number_line (codes "group") n ≡ single_line x → ⊥
      other x h k =
          no_group x (sym (lined (codes "group") (head_of x) (decimal n ∷ []) (words_of x) [] [] [] [] refl (head_is_word x) (number_is_word n hn, tt)
          (words_are_words x h) (ap (λ (l : List ℕ). text_of (l ∷ []) ++ []) k)).head)

      from : (z : Change) → IsChange z → ((p : ℕ × List Single) × Both IsNumber AreSingles group_lines singles_lines p
          × (both IsNumber AreSingles group_lines singles_lines p ≡ change_lines z)) ⊎ Differs text (change_lines z)
      from (Group xs) h = inl ((length xs, xs), (h.0, (refl, h.1)), refl)
      from (One x) h = inr (other_line text l mid (single_line x) (pulse_lines (put_of x)) cut whole (first_lacks newline x h) (λ k. other x h (sym e ∙ k)))

-- one change

pub one_stops : (text l mid rest : List ℕ) → text ≡ l ++ 10 ∷ mid → Lacks 10 l → ((n : ℕ) → IsNumber n → l ≡ numbered (codes "group") (n ∷ []) → ⊥)
    → Stops IsSingle single_lines text rest → Stops IsChange change_lines text rest
one_stops text l mid rest cut whole none s =
    carried IsSingle IsChange single_lines change_lines text rest (λ x h. (One x, h, refl)) from s where
      from : (z : Change) → IsChange z → ((x : Single) × IsSingle x × (single_lines x ≡ change_lines z)) ⊎ Differs text (change_lines z)
      from (One x) h = inl (x, h, refl)
      from (Group xs) h = inr (other_line text l mid (number_line (codes "group") (length xs)) (singles_lines xs) cut whole
          (counted_lacks newline (codes "group") (length xs) refl h.0) (none (length xs) h.0))

pub no_change_stops : (text : List ℕ) → Lacks 10 text → Stops IsChange change_lines text text
no_change_stops text lacks = first_line_stops IsChange change_lines text (One no_change) no_change_lawful differs where
  differs : (z : Change) → IsChange z → Differs text (change_lines z)
  differs (One x) h = lineless text (single_line x) (pulse_lines (put_of x)) lacks
  differs (Group xs) h = lineless text (number_line (codes "group") (length xs)) (singles_lines xs) lacks

-- a step

abbrev at_lines : ℕ → List (List ℕ)
at_lines n = number_lines (codes "at") n

step : ℕ → Change → SavedStep
step cursor change = record { cursor = cursor; change = change }

no_step : SavedStep
no_step = record { cursor = 0; change = One no_change }

no_step_lawful : IsStep no_step
unfolding no_step
no_step_lawful = (lit< tt, no_change_lawful)

pub step_stops : (text l mid rest : List ℕ) (n : ℕ) → text ≡ l ++ 10 ∷ mid → IsNumber n → l ≡ numbered (codes "at") (n ∷ [])
    → Stops IsChange change_lines mid rest → Stops IsStep step_lines text rest
unfolding step
step_stops text l mid rest n cut hn e s =
    carried (Both IsNumber (λ _. IsChange) at_lines change_lines) IsStep (both IsNumber (λ _. IsChange) at_lines change_lines) step_lines text rest
    (λ p h. (step p.0 p.1, h, refl)) (λ z h. inl ((z.cursor, z.change), h, refl))
    (line_behind_stops IsNumber (λ _. IsChange) (number_line (codes "at")) change_lines (λ m h. counted_lacks newline (codes "at") m refl h)
    (same_count (codes "at") refl) text l mid rest n cut hn e s)

pub step_line_stops : (text l rest : List ℕ) → text ≡ l ++ 10 ∷ rest → Lacks 10 l → ((n : ℕ) → IsNumber n → l ≡ numbered (codes "at") (n ∷ []) → ⊥)
    → Stops IsStep step_lines text text
step_line_stops text l rest cut whole none =
    first_line_stops IsStep step_lines text no_step no_step_lawful
    (λ s h. other_line text l rest (number_line (codes "at") s.cursor) (change_lines s.change) cut whole (counted_lacks newline (codes "at") s.cursor refl h.0)
    (none s.cursor h.0))

pub no_step_stops : (text : List ℕ) → Lacks 10 text → Stops IsStep step_lines text text
no_step_stops text lacks =
    first_line_stops IsStep step_lines text no_step no_step_lawful (λ s h. lineless text (number_line (codes "at") s.cursor) (change_lines s.change) lacks)

pub step_family : Family IsStep step_lines steps_lines
step_family = record {
  row = step_row;
  clean = step_clean newline;
  law = same_step;
  some = no_step;
  lawful = no_step_lawful;
}

-- a word, how many steps there are, and the steps

pub no_steps_lawful : AreSteps []
no_steps_lawful = (lit< tt, tt)

pub counted_reads : (head text l mid rest : List ℕ) (n : ℕ) (ss : List SavedStep) → text ≡ l ++ 10 ∷ mid → IsNumber n → l ≡ numbered head (n ∷ [])
    → Reads (ManySteps n) steps_lines mid ss rest → Reads AreSteps (counted_lines head) text ss rest
counted_reads head text l mid rest n ss cut h e r = record {
  lawful = (subst IsNumber (sym r.lawful.0) h, r.lawful.1);
  same = onward text l mid (number_line head (length ss)) rest (steps_lines ss) cut (e ∙ ap (number_line head) (sym r.lawful.0)) r.same;
}

pub counted_stops : (head text l mid rest : List ℕ) (n : ℕ) → IsWord head → text ≡ l ++ 10 ∷ mid → IsNumber n → l ≡ numbered head (n ∷ [])
    → Stops (ManySteps n) steps_lines mid rest → Stops AreSteps (counted_lines head) text rest
counted_stops head text l mid rest n hh cut hn e s =
    carried (Both IsNumber ManySteps (number_lines head) steps_lines) AreSteps (both IsNumber ManySteps (number_lines head) steps_lines) (counted_lines head)
    text rest
    (λ p h. (p.1, (subst IsNumber (sym h.1.0) h.0, h.1.1), ap (λ m. number_line head m ∷ steps_lines p.1) h.1.0))
    (λ z h. inl ((length z, z), (h.0, (refl, h.1)), refl))
    (line_behind_stops IsNumber ManySteps (number_line head) steps_lines (λ m h. counted_lacks newline head m (dark_lacks 10 head (omega arith) hh) h)
    (same_count head hh) text l mid rest n cut hn e s)

pub counted_line_stops : (head text l rest : List ℕ) → IsWord head → text ≡ l ++ 10 ∷ rest → Lacks 10 l
    → ((n : ℕ) → IsNumber n → l ≡ numbered head (n ∷ []) → ⊥)
    → Stops AreSteps (counted_lines head) text text
counted_line_stops head text l rest hh cut whole none =
    first_line_stops AreSteps (counted_lines head) text [] no_steps_lawful
    (λ ss h. other_line text l rest (number_line head (length ss)) (steps_lines ss) cut whole
    (counted_lacks newline head (length ss) (dark_lacks 10 head (omega arith) hh) h.0) (none (length ss) h.0))

pub no_counted_stops : (head text : List ℕ) → Lacks 10 text → Stops AreSteps (counted_lines head) text text
no_counted_stops head text lacks =
    first_line_stops AreSteps (counted_lines head) text [] no_steps_lawful (λ ss h. lineless text (number_line head (length ss)) (steps_lines ss) lacks)
