-- The number of the line at fault.
use Rattle.std.proofs.Common.{◌≡◌, ◌==◌, ◌<◌, ◌≤◌, ◌+◌, ◌-◌, ◌++◌, ◌∷◌, [], ℕ, suc, Bool, true, false, not, List, length, take, cond, refl, sym, ap, ap₂, subst}
use Rattle.std.proofs.Common.{◌∙◌, arith, length-append}
use Rattle.std.specs.List.{list_all, count_by}
use Rattle.std.proofs.lemmas.List.{append-nil, take_all, length-take-le, nil_from_length}
use Rattle.std.proofs.lemmas.{Bool.and_parts, Bool.false≢true, List.Sums.sum_by-append}
use Rattle.std.proofs.Math.Seq.{take-append_seam}
use Rattle.irig_saved.specs.{Lines.text_of, SavedText.saved_lines, SavedText.journal_text, Ranges.IsSaved, Reading.Reads, Reading.Stops, Reading.Lacks}
use Rattle.irig_saved.specs.{Faults.Begins, Faults.IsFault, declared.saved.Saved.Saved}
use Rattle.irig_saved.proofs.{Unique.same_saved, Clean.newline, Clean.AreLines, Clean.saved_clean, Sequences.lines_take, Sequences.determined}

-- newlines

abbrev is_newline : ℕ → Bool
is_newline b = b == 10

count-append : (u v : List ℕ) → count_by is_newline (u ++ v) ≡ count_by is_newline u + count_by is_newline v
count-append u v = sum_by-append (λ b. cond (is_newline b) 1 0) u v

none_counted : (u : List ℕ) → Lacks 10 u → count_by is_newline u ≡ 0
none_counted [] h = refl
none_counted (x ∷ u) h =
    let p = and_parts (not (x == 10)) (list_all (λ b. not (b == 10)) u) h in
    count-append (x ∷ []) u ∙ ap₂ (λ (m n : ℕ). m + n) (off (x == 10) p.0) (none_counted u p.1) where
      off : (b : Bool) → not b ≡ true → (let n : ℕ = 0 + cond b 1 0 in n) ≡ 0
      off true e = absurd (false≢true e)
      off false e = refl

plain : (n : ℕ) → 0 + (1 + n) ≡ suc n
plain n = omega arith

pub count_lines : (ls : List (List ℕ)) → AreLines ls → count_by is_newline (text_of ls) ≡ length ls
count_lines [] h = refl
count_lines (l ∷ ls) h =
    let here = none_counted l h.0 in
    let more = count_lines ls h.1 in
    count-append l (10 ∷ text_of ls) ∙ ap₂ (λ (m n : ℕ). m + n) here (count-append (10 ∷ []) (text_of ls) ∙ ap (λ (n : ℕ). 1 + n) more) ∙ plain (length ls)

pub lines_fit : (ls : List (List ℕ)) → length ls ≤ length (text_of ls)
lines_fit [] = omega arith
lines_fit (l ∷ ls) = let more = lines_fit ls in omega (arith, more, length-append l (10 ∷ text_of ls))

-- the newlines before the rest are as many as the lines there
pub lines_before : (ls : List (List ℕ)) (text rest : List ℕ) → AreLines ls → text ≡ text_of ls ++ rest
    → count_by is_newline (take (length text - length rest) text) ≡ length ls
lines_before ls text rest clean e =
    let size : length text ≡ length (text_of ls) + length rest = ap length e ∙ length-append (text_of ls) rest in
    let before : length text - length rest ≡ length (text_of ls) = omega (arith, size) in
    ap₂ (λ n (t : List ℕ). count_by is_newline (take n t)) before e ∙ ap (count_by is_newline) (take-append_seam (text_of ls) rest) ∙ count_lines ls clean

-- faults

same_begins : (s : Saved) (m n : ℕ) (text : List ℕ) → m ≡ n → Begins m (saved_lines s) text → Begins n (saved_lines s) text
same_begins s m n text e b = let P : ℕ → Type 0 = λ k. Begins k (saved_lines s) text in subst P e b

journal_is : (s : Saved) → journal_text s ≡ text_of (saved_lines s) ++ []
unfolding journal_text
journal_is s = sym (append-nil (text_of (saved_lines s)))

pub stop_fault : (text rest : List ℕ) (n : ℕ) (s : Stops IsSaved saved_lines text rest) → n ≡ 1 + s.n → IsFault n text
stop_fault text rest n s at = record {
  refused = λ t h e. s.refused t [] h (e ∙ journal_is t);
  first = omega (arith, at);
  before = (s.part, s.lawful, same_begins s.part s.n (n - 1) text (omega (arith, at)) (record { there = s.there; rest = rest; same = s.same }));
  wrong = λ t h b.
      let c = same_begins t n (s.n + 1) text (omega (arith, at)) b in
      s.wrong t c.rest h c.there c.same;
}

pub rest_fault : (s : Saved) (text rest : List ℕ) (n : ℕ) → Reads IsSaved saved_lines text s rest → 0 < length rest → n ≡ 1 + length (saved_lines s)
    → IsFault n text
rest_fault s text rest n r left at = record {
  refused = λ t h e. nothing (same_saved s t rest [] r.lawful h (sym r.same ∙ e ∙ journal_is t)).rest;
  first = omega (arith, at);
  before = (
    s,
    r.lawful,
    same_begins s (length (saved_lines s)) (n - 1) text (omega (arith, at))
        (record {
          there = omega arith;
          rest = rest;
          same = r.same
              ∙ ap (λ (l : List (List ℕ)). text_of l ++ rest) (sym (take_all (length (saved_lines s)) (saved_lines s) (omega arith)));
        }),
  );
  wrong = λ t h b.
      let same = determined IsSaved saved_lines (saved_clean newline) same_saved s t text rest b.rest n r.lawful h (omega (arith, at)) r.same b.same in
      let P : Saved → Type 0 = λ u. n ≤ length (saved_lines u) in
      let few : n ≤ length (saved_lines s) = subst P (sym same) b.there in
      omega (arith, few, at);
} where
  nothing : rest ≡ [] → ⊥
  nothing e = let none : length rest ≡ 0 = ap length e in omega (arith, none, left)

-- the line at which a part stops, or at which the text goes on after a journal

pub line_of_stop : (text rest : List ℕ) (n : ℕ) (s : Stops IsSaved saved_lines text rest) → n ≡ 1 + count_by is_newline (take (length text - length rest) text)
    → IsFault n text
line_of_stop text rest n s at =
    let lines = lines_before (take s.n (saved_lines s.part)) text rest (lines_take s.n (saved_lines s.part) (saved_clean newline s.part s.lawful)) s.same in
    let size : length (take s.n (saved_lines s.part)) ≡ s.n = length-take-le s.n (saved_lines s.part) s.there in
    stop_fault text rest n s (at ∙ ap (λ k. 1 + k) (lines ∙ size))

pub line_of_rest : (s : Saved) (text rest : List ℕ) (n : ℕ) → Reads IsSaved saved_lines text s rest → 0 < length rest
    → n ≡ 1 + count_by is_newline (take (length text - length rest) text) → IsFault n text
line_of_rest s text rest n r left at =
    rest_fault s text rest n r left (at ∙ ap (λ k. 1 + k) (lines_before (saved_lines s) text rest (saved_clean newline s r.lawful) r.same))

-- all was read

pub whole_text : (s : Saved) (text rest : List ℕ) → Reads IsSaved saved_lines text s rest → length rest < 1 → text ≡ journal_text s
whole_text s text rest r none = r.same ∙ ap (λ (l : List ℕ). text_of (saved_lines s) ++ l) (nil_from_length rest (omega (arith, none))) ∙ sym (journal_is s)

pub whole_short : (s : Saved) (text rest : List ℕ) → Reads IsSaved saved_lines text s rest → length (saved_lines s) ≤ length text
whole_short s text rest r =
    let fit = lines_fit (saved_lines s) in
    let size : length text ≡ length (text_of (saved_lines s)) + length rest = ap length r.same ∙ length-append (text_of (saved_lines s)) rest in
    omega (arith, fit, size)
