-- The lines of a saved journal.
use Rattle.std.proofs.Common.{◌≡◌, ◌≤◌, ◌++◌, ◌∷◌, [], ℕ, suc, zero, List, Option, None, length, codes, refl, sym, ap, ap₂, ◌∙◌, append_assoc, arith, lit<, inl}
use Rattle.std.specs.List.{AllByRecursion}
use Rattle.irig_codes.specs.{declared.format.Kind.Kind, declared.format.Kind.TheVariants.A}
use Rattle.irig_saved.specs.{Lines.line, Lines.numbered, Lines.text_of, SavedText.mark_lines, SavedText.counted_lines, SavedText.saved_lines, Ranges.IsNumber}
use Rattle.irig_saved.specs.{Ranges.IsTime, Ranges.AreSteps, Ranges.IsSaved, Values.IsFormat, Values.words_of_format, Reading.Reads, Reading.Stops}
use Rattle.irig_saved.specs.{Reading.Lacks, Leading.Leads, Leading.head_text, declared.step.SavedStep.SavedStep, declared.saved.Saved.Saved}
use Rattle.irig_saved.proofs.Sequences.{Both, both, first_stops, second_stops, behind_stops, determined, line_behind_stops}
use Rattle.irig_saved.proofs.{SameWords.kind_is_word, SameWords.same_kind, SameWords.small_is_number, SameWords.word_at, Clean.newline, Clean.counted_lacks}
use Rattle.irig_saved.proofs.{Clean.format_lacks, Clean.counted_clean, ChangeParts.no_steps_lawful, ChangeParts.onward, ChangeParts.same_count, Cuts.AreWords}
use Rattle.irig_saved.proofs.{Decimals.number_is_word, Decimals.same_number, Unique.lined, Unique.regroup, Unique.same_counted, Unique.saved, Carried.carried}
use Rattle.irig_saved.proofs.{Carried.first_line_stops, MarkParts.lead_times, MarkParts.lead_same, MarkParts.lead_tells}

-- the steps

abbrev pub Ends : Type 0
Ends = List SavedStep × List SavedStep

abbrev pub AreEnds : Ends → Type 0
AreEnds e = Both AreSteps (λ _. AreSteps) (counted_lines (codes "past")) (counted_lines (codes "future")) e

abbrev pub end_lines : Ends → List (List ℕ)
end_lines e = both AreSteps (λ _. AreSteps) (counted_lines (codes "past")) (counted_lines (codes "future")) e

pub past_stops : (text rest : List ℕ) → Stops AreSteps (counted_lines (codes "past")) text rest → Stops AreEnds end_lines text rest
past_stops text rest s =
    first_stops AreSteps (λ _. AreSteps) (counted_lines (codes "past")) (counted_lines (codes "future")) text rest (λ x h. ([], no_steps_lawful)) s

pub future_stops : (text mid rest : List ℕ) (past : List SavedStep) → Reads AreSteps (counted_lines (codes "past")) text past mid
    → Stops AreSteps (counted_lines (codes "future")) mid rest → Stops AreEnds end_lines text rest
future_stops text mid rest past r s =
    second_stops AreSteps (λ _. AreSteps) (counted_lines (codes "past")) (counted_lines (codes "future")) past text mid rest r.lawful r.same
    (λ y n more h many e. determined AreSteps (counted_lines (codes "past")) (λ z hz. counted_clean newline (codes "past") z refl hz)
    (λ x z q v hx hz k. same_counted (codes "past") x z q v refl hx hz k) past y text mid more n r.lawful h many r.same e) s

-- the marks and the steps

abbrev pub AreMarks : List (Option ℕ) → Type 0
AreMarks ms = (length ms ≡ 26) × AllByRecursion IsTime ms

abbrev pub Tail : Type 0
Tail = List (Option ℕ) × Ends

abbrev pub IsTail : Tail → Type 0
IsTail t = Both AreMarks (λ _. AreEnds) (mark_lines 97) end_lines t

abbrev pub tail_lines : Tail → List (List ℕ)
tail_lines t = both AreMarks (λ _. AreEnds) (mark_lines 97) end_lines t

pub tail_stops : (text mid rest : List ℕ) (ms : List (Option ℕ)) → length ms ≡ 26 → Leads 97 ms text mid → Stops AreEnds end_lines mid rest
    → Stops IsTail tail_lines text rest
tail_stops text mid rest ms all leads s =
    behind_stops AreMarks (λ _. AreEnds) (mark_lines 97) end_lines ms text mid rest (all, lead_times 97 ms text mid leads) (lead_same 97 ms text mid leads)
    (λ p n more h many e. lead_tells 97 ms p.0 p.1.0 p.1.1 text mid more n (omega arith) (all ∙ sym h.0.0) h.0.1 leads (omega (arith, many)) e) s

nones : ℕ → List (Option ℕ)
nones zero = []
nones (suc n) = None ∷ nones n

no_times : (n : ℕ) → (length (nones n) ≡ n) × AllByRecursion IsTime (nones n)
unfolding nones
no_times zero = (refl, tt)
no_times (suc n) = let more = no_times n in (ap suc more.0, (tt, more.1))

no_tail : Tail
no_tail = (nones 26, ([], []))

no_tail_lawful : IsTail no_tail
unfolding no_tail
no_tail_lawful = (no_times 26, (no_steps_lawful, no_steps_lawful))

-- the cursor and the rest

abbrev pub cursor_line : ℕ → List ℕ
cursor_line n = numbered (codes "cursor") (n ∷ [])

abbrev cursor_lines : ℕ → List (List ℕ)
cursor_lines n = cursor_line n ∷ []

abbrev pub Body : Type 0
Body = ℕ × Tail

abbrev pub IsBody : Body → Type 0
IsBody b = Both IsNumber (λ _. IsTail) cursor_lines tail_lines b

abbrev pub body_lines : Body → List (List ℕ)
body_lines b = both IsNumber (λ _. IsTail) cursor_lines tail_lines b

pub body_stops : (text mid rest : List ℕ) (n : ℕ) → text ≡ cursor_line n ++ 10 ∷ mid → IsNumber n → Stops IsTail tail_lines mid rest
    → Stops IsBody body_lines text rest
body_stops text mid rest n cut h s =
    line_behind_stops IsNumber (λ _. IsTail) cursor_line tail_lines (λ m hm. counted_lacks newline (codes "cursor") m refl hm)
    (same_count (codes "cursor") refl) text (cursor_line n) mid rest n cut h refl s

no_body : Body
no_body = (0, no_tail)

no_body_lawful : IsBody no_body
unfolding no_body
no_body_lawful = (lit< tt, no_tail_lawful)

pub cursor_stops : (text : List ℕ) → ((n : ℕ) (more : List ℕ) → IsNumber n → text ≡ cursor_line n ++ 10 ∷ more → ⊥) → Stops IsBody body_lines text text
cursor_stops text none =
    first_line_stops IsBody body_lines text no_body no_body_lawful
    (λ b h. record { first = cursor_line b.0; others = tail_lines b.1; lines = refl; apart = λ more e. none b.0 more h.0 e })

-- the format and the rest

abbrev pub format_line : Kind × ℕ → List ℕ
format_line f = line (codes "format") (words_of_format f)

abbrev format_lines : Kind × ℕ → List (List ℕ)
format_lines f = format_line f ∷ []

abbrev pub Whole : Type 0
Whole = (Kind × ℕ) × Body

abbrev pub IsWhole : Whole → Type 0
IsWhole w = Both IsFormat (λ _. IsBody) format_lines body_lines w

abbrev pub whole_lines : Whole → List (List ℕ)
whole_lines w = both IsFormat (λ _. IsBody) format_lines body_lines w

pub format_clean : (f : Kind × ℕ) → IsFormat f → Lacks 10 (format_line f)
format_clean f h = format_lacks newline f.0 f.1 h

format_words : (f : Kind × ℕ) → IsFormat f → AreWords (words_of_format f)
format_words f h = (kind_is_word f.0, (number_is_word f.1 (small_is_number f.1 h), tt))

same_format : (f g : Kind × ℕ) → IsFormat f → IsFormat g → format_line f ≡ format_line g → f ≡ g
same_format f g hf hg e =
    let l = lined (codes "format") (codes "format") (words_of_format f) (words_of_format g) [] [] [] [] refl refl (format_words f hf) (format_words g hg)
    (ap (λ (l : List ℕ). text_of (l ∷ []) ++ []) e) in
    let kind = same_kind f.0 g.0 (word_at 0 _ _ l.words) in
    let number = same_number f.1 g.1 (small_is_number f.1 hf) (small_is_number g.1 hg) (word_at 1 _ _ l.words) in
    pair f.0 g.0 f.1 g.1 kind number where
      pair : (k l : Kind) (m n : ℕ) → k ≡ l → m ≡ n → (let p : Kind × ℕ = (k, m) in p) ≡ (l, n)
      pair k l m n kind number = ap₂ (λ x y. (let p : Kind × ℕ = (x, y) in p)) kind number

pub whole_stops : (text mid rest : List ℕ) (f : Kind × ℕ) → text ≡ format_line f ++ 10 ∷ mid → IsFormat f → Stops IsBody body_lines mid rest
    → Stops IsWhole whole_lines text rest
whole_stops text mid rest f cut h s = line_behind_stops IsFormat (λ _. IsBody) format_line body_lines format_clean same_format text (format_line f) mid rest f
    cut h refl s

no_whole : Whole
no_whole = ((A, 0), no_body)

no_whole_lawful : IsWhole no_whole
unfolding no_whole
no_whole_lawful = (omega arith, no_body_lawful)

pub format_stops : (text : List ℕ) → ((f : Kind × ℕ) (more : List ℕ) → IsFormat f → text ≡ format_line f ++ 10 ∷ more → ⊥) → Stops IsWhole whole_lines text text
format_stops text none =
    first_line_stops IsWhole whole_lines text no_whole no_whole_lawful
    (λ w h. record { first = format_line w.0; others = body_lines w.1; lines = refl; apart = λ more e. none w.0 more h.0 e })

-- all of it

abbrev name_line : Unit {0} → List ℕ
name_line u = codes "irig-journal-1"

abbrev name_lines : Unit {0} → List (List ℕ)
name_lines u = name_line u ∷ []

abbrev IsNamed : Unit {0} → Type 0
IsNamed u = Unit {0}

same_lines : (s : Saved) → saved_lines s ≡ both IsNamed (λ _. IsWhole) name_lines whole_lines
    (tt, ((s.kind, s.expression), (s.cursor, (s.marks, (s.past, s.future)))))
same_lines s =
    ap (λ (ls : List (List ℕ)). name_line tt ∷ format_line (s.kind, s.expression) ∷ cursor_line s.cursor ∷ ls)
    (append_assoc (mark_lines 97 s.marks) (counted_lines (codes "past") s.past) (counted_lines (codes "future") s.future))

pub saved_stops : (text mid rest : List ℕ) → text ≡ codes "irig-journal-1" ++ 10 ∷ mid → Stops IsWhole whole_lines mid rest
    → Stops IsSaved saved_lines text rest
unfolding saved
saved_stops text mid rest cut s =
    carried (Both IsNamed (λ _. IsWhole) name_lines whole_lines) IsSaved (both IsNamed (λ _. IsWhole) name_lines whole_lines) saved_lines text rest
    (λ p h. (
      saved p.1.0.0 p.1.0.1 p.1.1.0 p.1.1.1.0 p.1.1.1.1.0 p.1.1.1.1.1,
      record { expression = h.1.0; cursor = h.1.1.0; letters = h.1.1.1.0.0; marks = h.1.1.1.0.1; past = h.1.1.1.1.0; future = h.1.1.1.1.1 },
      same_lines (saved p.1.0.0 p.1.0.1 p.1.1.0 p.1.1.1.0 p.1.1.1.1.0 p.1.1.1.1.1),
    ))
    (λ t h. inl (
      (tt, ((t.kind, t.expression), (t.cursor, (t.marks, (t.past, t.future))))),
      (tt, (h.expression, (h.cursor, ((h.letters, h.marks), (h.past, h.future))))),
      sym (same_lines t),
    ))
    (line_behind_stops IsNamed (λ _. IsWhole) name_line whole_lines (λ u h. refl) (λ u v hu hv e. refl) text (name_line tt) mid rest tt cut tt refl s)

no_saved_lawful : IsSaved (saved A 0 0 (nones 26) [] [])
unfolding saved
no_saved_lawful = record {
  expression = omega arith;
  cursor = lit< tt;
  letters = (no_times 26).0;
  marks = (no_times 26).1;
  past = no_steps_lawful;
  future =
      no_steps_lawful;
}

-- a journal stops at the line at which what is after its cursor stops
pub head_stops : (text mid rest : List ℕ) (f : Kind × ℕ) (n : ℕ) → text ≡ head_text f n mid → IsFormat f → IsNumber n
    → Stops IsTail tail_lines mid rest → Stops IsSaved saved_lines text rest
head_stops text mid rest f n same hf hn s =
    let formatted = cursor_line n ++ 10 ∷ mid in
    let named = format_line f ++ 10 ∷ formatted in
    saved_stops text named rest same (whole_stops named formatted rest f refl hf (body_stops formatted mid rest n refl hn s))

pub name_stops : (text : List ℕ) → ((more : List ℕ) → text ≡ codes "irig-journal-1" ++ 10 ∷ more → ⊥) → Stops IsSaved saved_lines text text
name_stops text none =
    first_line_stops IsSaved saved_lines text (saved A 0 0 (nones 26) [] []) no_saved_lawful
    (λ s h. record { first = name_line tt; others = _; lines = refl; apart = λ more e. none more e })

-- the lines of the head, and those after it
pub head_same : (text mid rest : List ℕ) (f : Kind × ℕ) (n : ℕ) (ls : List (List ℕ)) → text ≡ head_text f n mid → mid ≡ text_of ls ++ rest
    → text ≡ text_of (codes "irig-journal-1" ∷ format_line f ∷ cursor_line n ∷ ls) ++ rest
head_same text mid rest f n ls same behind =
    let formatted = cursor_line n ++ 10 ∷ mid in
    let named = format_line f ++ 10 ∷ formatted in
    onward text (name_line tt) named (name_line tt) rest (format_line f ∷ cursor_line n ∷ ls) same refl
    (onward named (format_line f) formatted (format_line f) rest (cursor_line n ∷ ls) refl refl
    (onward formatted (cursor_line n) mid (cursor_line n) rest ls refl refl behind))

-- what was read, part by part
pub record Sections (s : Saved) (text rest : List ℕ) : Type 0 where
  pub placed : List ℕ
  pub marked : List ℕ
  pub undone : List ℕ
  pub head : text ≡ head_text (s.kind, s.expression) s.cursor placed
  pub expression : s.expression ≤ 7
  pub number : IsNumber s.cursor
  pub letters : length s.marks ≡ 26
  pub marks : Leads 97 s.marks placed marked
  pub past : Reads AreSteps (counted_lines (codes "past")) marked s.past undone
  pub future : Reads AreSteps (counted_lines (codes "future")) undone s.future rest

pub saved_reads : (s : Saved) (text rest : List ℕ) → Sections s text rest → Reads IsSaved saved_lines text s rest
saved_reads s text rest h = record {
  lawful = record {
    expression = h.expression;
    cursor = h.number;
    letters = h.letters;
    marks = lead_times 97 s.marks h.placed h.marked h.marks;
    past =
        h.past.lawful;
    future = h.future.lawful;
  };
  same = head_same text h.placed rest (s.kind, s.expression) s.cursor tail h.head behind;
} where
  past : List (List ℕ)
  past = counted_lines (codes "past") s.past

  future : List (List ℕ)
  future = counted_lines (codes "future") s.future

  tail : List (List ℕ)
  tail = mark_lines 97 s.marks ++ past ++ future

  behind : h.placed ≡ text_of tail ++ rest
  behind =
      lead_same 97 s.marks h.placed h.marked h.marks
      ∙ ap (λ (l : List ℕ). text_of (mark_lines 97 s.marks) ++ l) (h.past.same ∙ ap (λ (l : List ℕ). text_of past ++ l) h.future.same)
      ∙ sym (regroup (mark_lines 97 s.marks) past (text_of future ++ rest))
      ∙ sym (regroup (mark_lines 97 s.marks ++ past) future rest)
