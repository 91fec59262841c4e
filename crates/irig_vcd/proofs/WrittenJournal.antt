-- The journal after the text of a recording.
use Rattle.std.proofs.Common.{◌≡◌, ◌+◌, ◌-◌, ◌++◌, ◌∷◌, ◌==◌, [], ℕ, Bool, true, false, not, cond, List, Some, None, Result, Ok, length, length-append, take}
use Rattle.std.proofs.Common.{drop, map, codes, refl, ap, sym, ◌∙◌, arith, append_assoc}
use Rattle.std.specs.List.{list_all}
use Rattle.std.proofs.lemmas.{Bool.and_parts, Bool.not-true, List.append-nil, List.Folds.list_all-append}
use Rattle.std.proofs.Math.Seq.{take-append_seam, drop-append_seam}
use Rattle.irig_vcd.specs.Words.{Word, words_from, before_space, kind_of_byte, is_space, dollar, other}
use Rattle.irig_vcd.specs.{Code.Section.end_read, Sections.is_mark, Journals.comment, Journals.text_of, Level.Change, Scan.comment_of, Scan.scan_words}
use Rattle.irig_vcd.specs.{Parts.dump_parts, Parts.one_journal, declared.fault.VcdFault.VcdFault}
use Rattle.irig_recording.specs.{FileText.file_text, Comments.IsJournalText, Comments.comment_text, Recording.RecordingView, Recording.IsRecording}
use Rattle.irig_vcd.proofs.ScanSteps.{past_end, to_comment, to_first}
use Rattle.irig_vcd.proofs.{ReadBack.back, ReadBack.begun, WholeDump.with_journal, WrittenChanges.at_rest}

-- a word that does not begin with a dollar is no end
past_word : (dark inside : Bool) (b : ℕ) (bs : List ℕ) (offset : ℕ) (x y : List Word) → (b == 36) ≡ false
    → end_read (cond dark x (cond inside y (record { kind = kind_of_byte b; bytes = b ∷ bs; offset = offset } ∷ y))) ≡ end_read (cond dark x y)
past_word true inside b bs offset x y apart = refl
past_word false true b bs offset x y apart = refl
past_word false false b bs offset x y apart = rw apart refl

both_ways : (dark : Bool) (x y : List Word) (r : Result (ℕ × List Word) VcdFault) → end_read x ≡ r → end_read y ≡ r → end_read (cond dark x y) ≡ r
both_ways true x y r h k = h
both_ways false x y r h k = k

-- a text without a dollar ends at the line after it
ends_behind : (text : List ℕ) (at place : ℕ) (inside : Bool) → list_all (λ b. not (b == 36)) text ≡ true → place ≡ at + length text + 1
    → end_read (words_from at inside (text ++ 10 ∷ codes "$end\n")) ≡ Ok (place, [])
ends_behind [] at place inside plain is = let same : place ≡ at + 1 = omega (arith, is) in rw same refl
ends_behind (b ∷ bs) at place inside plain is =
    let p = and_parts (not (b == 36)) (list_all (λ b. not (b == 36)) bs) plain in
    let rest : place ≡ at + 1 + length bs + 1 = omega (arith, is) in
    past_word (is_space b) inside b (before_space (bs ++ 10 ∷ codes "$end\n")) at (words_from (at + 1) false (bs ++ 10 ∷ codes "$end\n"))
    (words_from (at + 1) true (bs ++ 10 ∷ codes "$end\n")) (not-true (b == 36) p.0)
    ∙ both_ways (is_space b) (words_from (at + 1) false (bs ++ 10 ∷ codes "$end\n")) (words_from (at + 1) true (bs ++ 10 ∷ codes "$end\n")) (Ok (place, []))
    (ends_behind bs (at + 1) place false p.1 rest) (ends_behind bs (at + 1) place true p.1 rest)

-- the word that begins a comment, and the first word of a journal
abbrev comment_at : ℕ → Word
comment_at at = record { kind = dollar; bytes = codes "$comment"; offset = at }

abbrev first_at : ℕ → Word
first_at at = record { kind = other; bytes = codes "irig-journal-1"; offset = at }

comment_begins : (at place : ℕ) (rest : List ℕ) → place ≡ at + 9 → words_from at false (codes "$comment\n" ++ rest) ≡ comment_at at
    ∷ words_from place false rest
comment_begins at place rest is = let same : at + 1 + 1 + 1 + 1 + 1 + 1 + 1 + 1 + 1 ≡ place = omega (arith, is) in
    ap (λ n. comment_at at ∷ words_from n false rest) same

journal_begins : (at : ℕ) (rest : List ℕ) → words_from at false (codes "irig-journal-1\n" ++ rest) ≡ first_at at ∷ words_from (at + 15) false rest
journal_begins at rest =
    let same : at + 1 + 1 + 1 + 1 + 1 + 1 + 1 + 1 + 1 + 1 + 1 + 1 + 1 + 1 + 1 ≡ at + 15 = omega arith in
    ap (λ n. first_at at ∷ words_from n false rest) same

-- the words of a journal's lines and of its end
record InComment (lines : List ℕ) (at : ℕ) : Type 0 where
  pub rest : List Word
  pub words : words_from at false (lines ++ codes "$end\n") ≡ first_at at ∷ rest
  pub ends : end_read rest ≡ Ok (at + length lines, [])

in_lines : (lines : List ℕ) (at : ℕ) → IsJournalText lines → InComment lines at
in_lines lines at j =
    let words : words_from at false (lines ++ codes "$end\n") ≡ first_at at ∷ words_from (at + 15) false (j.rest ++ codes "$end\n") =
    ap (λ (l : List ℕ). words_from at false (l ++ codes "$end\n")) j.begins ∙ journal_begins at (j.rest ++ codes "$end\n") in
    let len : length lines ≡ length j.front + 1 = ap length j.ends ∙ length-append j.front (10 ∷ []) in
    let front : list_all (λ b. not (b == 36)) j.front ≡ true =
    (and_parts _ _ (sym (list_all-append (λ b. not (b == 36)) j.front (10 ∷ [])) ∙ (ap (list_all (λ b. not (b == 36))) (sym j.ends) ∙ j.plain))).0 in
    let text : lines ++ codes "$end\n" ≡ j.front ++ 10 ∷ codes "$end\n" = ap (λ (l : List ℕ). l ++ codes "$end\n") j.ends
    ∙ append_assoc j.front (10 ∷ []) (codes "$end\n") in
    let ends : end_read (words_from at false (lines ++ codes "$end\n")) ≡ Ok (at + length lines, []) =
    ap (λ (l : List ℕ). end_read (words_from at false l)) text ∙ ends_behind j.front at (at + length lines) false front (omega (arith, len)) in
    record {
      rest = words_from (at + 15) false (j.rest ++ codes "$end\n");
      words = words;
      ends = sym (ap end_read words) ∙ ends;
    }

comment_words : (lines : List ℕ) (at : ℕ) → words_from at false (comment_text lines) ≡ comment_at at ∷ words_from (at + 9) false (lines ++ codes "$end\n")
comment_words lines at = ap (words_from at false) (append_assoc (codes "$comment\n") lines (codes "$end\n"))
    ∙ comment_begins at (at + 9) (lines ++ codes "$end\n") refl

-- a comment with a journal is read
comment_read : (lines : List ℕ) (at last : ℕ) (changes : List Change) → IsJournalText lines
    → scan_words (33 ∷ []) 9 (at_rest last changes []) (words_from at false (comment_text lines))
    ≡ (at_rest last changes (comment (first_at (at + 9)) (at + 9 + length lines) ∷ []), None)
unfolding is_mark
comment_read lines at last changes j =
    let k = in_lines lines (at + 9) j in
    let s = at_rest last changes [] in
    let opened = record s { opened = comment_of None } in
    ap (scan_words (33 ∷ []) 9 s) (comment_words lines at)
    ∙ (to_comment (33 ∷ []) 9 s (comment_at at) (words_from (at + 9) false (lines ++ codes "$end\n")) refl refl refl refl
    ∙ (ap (scan_words (33 ∷ []) 9 opened) k.words
    ∙ (to_first (33 ∷ []) 9 opened (first_at (at + 9)) k.rest refl refl
    ∙ past_end (33 ∷ []) 9 s (first_at (at + 9)) k.rest [] (at + 9 + length lines) k.ends)))

regrouped : (f a b c : List ℕ) → f ++ ((a ++ b) ++ c) ≡ (f ++ a) ++ (b ++ c)
regrouped f a b c = simp append_assoc

-- the bytes of the comment from its first word up to its end are the lines
lines_cut : (front lines : List ℕ) (at end : ℕ) → at ≡ length front + 9 → end ≡ at + length lines
    → text_of (front ++ comment_text lines) (comment (first_at at) end) ≡ lines
lines_cut front lines at end is ends =
    let text : front ++ comment_text lines ≡ (front ++ codes "$comment\n") ++ (lines ++ codes "$end\n") =
    regrouped front (codes "$comment\n") lines (codes "$end\n") in
    let place : at ≡ length (front ++ codes "$comment\n") = is ∙ sym (length-append front (codes "$comment\n")) in
    let count : end - at ≡ length lines = omega (arith, ends) in
    let behind : drop at (front ++ comment_text lines) ≡ lines ++ codes "$end\n" = ap (λ n. drop n (front ++ comment_text lines)) place
    ∙ (ap (drop (length (front ++ codes "$comment\n"))) text ∙ drop-append_seam (front ++ codes "$comment\n") (lines ++ codes "$end\n")) in
    ap (λ n. take n (drop at (front ++ comment_text lines))) count ∙ (ap (take (length lines)) behind ∙ take-append_seam lines (codes "$end\n"))

pub plain_back : (r : RecordingView) → IsRecording r.micros r.edges → dump_parts None (file_text r) ≡ Ok (r, None)
plain_back r is =
    let b = begun r.micros r.edges [] is in
    let k = back r [] b [] refl in
    ap (dump_parts None) (sym (append-nil (file_text r)))
    ∙ with_journal None (file_text r ++ []) r None k.0 (ap (λ s. one_journal (map (text_of (file_text r ++ [])) s.journals)) k.1)

pub journal_back : (r : RecordingView) (lines : List ℕ) → IsRecording r.micros r.edges → IsJournalText lines
    → dump_parts None (file_text r ++ comment_text lines) ≡ Ok (r, Some lines)
journal_back r lines is j =
    let bytes = file_text r ++ comment_text lines in
    let at = length (file_text r) + 9 in
    let b = begun r.micros r.edges (comment_text lines) is in
    let k = back r (comment_text lines) b (comment (first_at at) (at + length lines) ∷ []) (comment_read lines (length (file_text r)) r.micros b.changes j) in
    let one : one_journal (map (text_of bytes) (comment (first_at at) (at + length lines) ∷ [])) ≡ Ok (Some lines) =
    ap (λ l. Ok (Some l)) (lines_cut (file_text r) lines at (at + length lines) refl refl) in
    with_journal None bytes r (Some lines) k.0 (ap (λ s. one_journal (map (text_of bytes) s.journals)) k.1 ∙ one)
