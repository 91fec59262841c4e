-- The lines of marks.
use Rattle.std.proofs.Common.{◌≡◌, ◌<◌, ◌+◌, ◌++◌, ◌∷◌, [], ℕ, suc, zero, List, Option, Some, None, length, take, decimal, codes, refl, sym, ap, ap₂, subst}
use Rattle.std.proofs.Common.{◌∙◌, append_assoc, arith}
use Rattle.std.specs.List.{AllByRecursion}
use Rattle.irig_saved.specs.{Lines.text_of, SavedText.mark_lines, SavedText.counted_lines, Ranges.IsNumber, Ranges.IsTime, Reading.Lacks, Leading.mark_line}
use Rattle.irig_saved.specs.{Leading.LacksMark, Leading.Leads, declared.step.SavedStep.SavedStep}
use Rattle.irig_saved.proofs.{Decimals.same_number, SameWords.byte_at, SameWords.byte_is_word, SameWords.word_at, Unique.lined, Unique.mark_words}
use Rattle.irig_saved.proofs.{Clean.newline, Clean.mark_lacks, Bytes.cut_at, Bytes.not_lacking, Bytes.dark_lacks}

-- what they are

pub lead_times : (x : ℕ) (ms : List (Option ℕ)) (text rest : List ℕ) → Leads x ms text rest → AllByRecursion IsTime ms
lead_times x [] text rest h = tt
lead_times x (None ∷ ms) text rest h = (tt, lead_times (x + 1) ms text rest h.1)
lead_times x (Some t ∷ ms) text rest h = (h.0, lead_times (x + 1) ms h.1.0 rest h.1.2)

pub lead_same : (x : ℕ) (ms : List (Option ℕ)) (text rest : List ℕ) → Leads x ms text rest → text ≡ text_of (mark_lines x ms) ++ rest
lead_same x [] text rest h = h
lead_same x (None ∷ ms) text rest h = lead_same (x + 1) ms text rest h.1
lead_same x (Some t ∷ ms) text rest h =
    h.1.1 ∙ ap (λ (l : List ℕ). mark_line x t ++ 10 ∷ l) (lead_same (x + 1) ms h.1.0 rest h.1.2)
    ∙ sym (append_assoc (mark_line x t) (10 ∷ text_of (mark_lines (x + 1) ms)) rest)

-- one more

moved_on : (x : ℕ) (ms : List (Option ℕ)) (m : Option ℕ) (mid rest : List ℕ) → Leads (x + suc (length ms)) (m ∷ []) mid rest
    → Leads (x + 1 + length ms) (m ∷ []) mid rest
moved_on x ms m mid rest more =
    let same : x + suc (length ms) ≡ x + 1 + length ms = omega arith in
    let P : ℕ → Type 0 = λ y. Leads y (m ∷ []) mid rest in
    subst P same more

pub lead_more : (x : ℕ) (ms : List (Option ℕ)) (m : Option ℕ) (text mid rest : List ℕ) → Leads x ms text mid → Leads (x + length ms) (m ∷ []) mid rest
    → Leads x (ms ++ m ∷ []) text rest
lead_more x [] m text mid rest h more =
    let start : x + 0 ≡ x = omega arith in
    let P : ℕ → Type 0 = λ y. Leads y (m ∷ []) mid rest in
    let Q : List ℕ → Type 0 = λ t. Leads x (m ∷ []) t rest in
    subst Q (sym h) (subst P start more)
lead_more x (None ∷ ms) m text mid rest h more = (h.0, lead_more (x + 1) ms m text mid rest h.1 (moved_on x ms m mid rest more))
lead_more x (Some t ∷ ms) m text mid rest h more = (h.0, (h.1.0, h.1.1, lead_more (x + 1) ms m h.1.0 mid rest h.1.2 (moved_on x ms m mid rest more)))

-- a text whose first line is no such mark

pub lineless_lacks : (x : ℕ) (text : List ℕ) → Lacks 10 text → LacksMark x text
lineless_lacks x text lacks = λ t more small e. let P : List ℕ → Type 0 = λ l. Lacks 10 l in not_lacking 10 (mark_line x t) more (subst P e lacks)

pub other_lacks : (x : ℕ) (text l rest : List ℕ) → 32 < x → text ≡ l ++ 10 ∷ rest → Lacks 10 l → ((t : ℕ) → IsNumber t → l ≡ mark_line x t → ⊥)
    → LacksMark x text
other_lacks x text l rest high cut whole none = λ t more small e.
    none t small (cut_at 10 l (mark_line x t) rest more whole (mark_lacks newline x t (dark_lacks 10 (x ∷ []) (omega arith) (byte_is_word x high)) small)
    (sym cut ∙ e)).0

-- the lines up to the one after them determine them

-- the steps after the marks
abbrev pub step_sections : List SavedStep → List SavedStep → List (List ℕ)
step_sections past future = counted_lines (codes "past") past ++ counted_lines (codes "future") future

one_line : (u : List ℕ) (ls : List (List ℕ)) (more : List ℕ) → text_of (u ∷ ls) ++ more ≡ u ++ 10 ∷ (text_of ls ++ more)
one_line u ls more = append_assoc u (10 ∷ text_of ls) more

not_later : (x y t n : ℕ) (ns : List (Option ℕ)) (past future : List SavedStep) (text mid more : List ℕ) → 32 < x → x < y → IsNumber t
    → AllByRecursion IsTime ns → text ≡ mark_line x t ++ 10 ∷ mid → text ≡ text_of (take (suc n) (mark_lines y ns ++ step_sections past future)) ++ more → ⊥
not_later x y t n [] past future text mid more high less small hn one e =
    let bad : 109 ≡ 112 = byte_at 0 _ _ (sym one ∙ e) in omega (arith, bad)
not_later x y t n (None ∷ ns) past future text mid more high less small hn one e =
    not_later x (y + 1) t n ns past future text mid more high (omega (arith, less)) small hn.1 one e
not_later x y t n (Some u ∷ ns) past future text mid more high less small hn one e =
    let l = lined (codes "mark") (codes "mark") ((x ∷ []) ∷ decimal t ∷ []) ((y ∷ []) ∷ decimal u ∷ []) []
    (take n (mark_lines (y + 1) ns ++ step_sections past future)) mid more
    refl refl (mark_words x t high small) (mark_words y u (omega (arith, high, less)) hn.0) (one_line (mark_line x t) [] mid ∙ sym one ∙ e) in
    let same : x ≡ y = byte_at 0 _ _ (word_at 0 _ _ l.words) in
    omega (arith, same, less)

pub lead_tells : (x : ℕ) (ms ns : List (Option ℕ)) (past future : List SavedStep) (text rest more : List ℕ) (n : ℕ) → 32 < x → length ms ≡ length ns
    → AllByRecursion IsTime ns
    → Leads x ms text rest → length (mark_lines x ms) < n → text ≡ text_of (take n (mark_lines x ns ++ step_sections past future)) ++ more → ms ≡ ns
lead_tells x ms ns past future text rest more zero high same hn h few e = absurd (omega (arith, few))
lead_tells x [] [] past future text rest more (suc n) high same hn h few e = refl
lead_tells x [] (b ∷ ns) past future text rest more (suc n) high same hn h few e = absurd (omega (arith, same))
lead_tells x (a ∷ ms) [] past future text rest more (suc n) high same hn h few e = absurd (omega (arith, same))
lead_tells x (None ∷ ms) (None ∷ ns) past future text rest more (suc n) high same hn h few e =
    ap (λ (l : List (Option ℕ)). None ∷ l) (lead_tells (x + 1) ms ns past future text rest more (suc n) (omega (arith, high)) (omega (arith, same)) hn.1 h.1 few
    e)
lead_tells x (None ∷ ms) (Some u ∷ ns) past future text rest more (suc n) high same hn h few e =
    let ls = take n (mark_lines (x + 1) ns ++ step_sections past future) in
    absurd (h.0 u (text_of ls ++ more) hn.0 (e ∙ one_line (mark_line x u) ls more))
lead_tells x (Some t ∷ ms) (None ∷ ns) past future text rest more (suc n) high same hn h few e =
    absurd (not_later x (x + 1) t n ns past future text h.1.0 more high (omega arith) h.0 hn.1 h.1.1 e)
lead_tells x (Some t ∷ ms) (Some u ∷ ns) past future text rest more (suc n) high same hn h few e =
    let ls = take n (mark_lines (x + 1) ns ++ step_sections past future) in
    let l = lined (codes "mark") (codes "mark") ((x ∷ []) ∷ decimal t ∷ []) ((x ∷ []) ∷ decimal u ∷ []) [] ls h.1.0 more
    refl refl (mark_words x t high h.0) (mark_words x u high hn.0) (one_line (mark_line x t) [] h.1.0 ∙ sym h.1.1 ∙ e) in
    let one = same_number t u h.0 hn.0 (word_at 1 _ _ l.words) in
    ap₂ (λ (m : ℕ) (l : List (Option ℕ)). Some m ∷ l) one
    (lead_tells (x + 1) ms ns past future h.1.0 rest more n (omega (arith, high)) (omega (arith, same)) hn.1 h.1.2 (omega (arith, few)) l.rest)
