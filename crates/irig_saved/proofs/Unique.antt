-- A text of the form determines what it is the text of, and where it ends.
use Rattle.std.proofs.Common.{◌≡◌, ◌<◌, ◌+◌, ◌++◌, ◌∷◌, [], ℕ, Option, Some, None, List, length, get_or, decimal, codes, refl, sym, ap, ap₂, subst, ◌∙◌}
use Rattle.std.proofs.Common.{append_assoc, arith}
use Rattle.std.specs.List.{AllByRecursion}
use Rattle.irig_saved.specs.SavedText.{put_of, pulse_lines, single_lines, singles_lines, change_lines, step_lines, steps_lines, mark_lines, counted_lines}
use Rattle.irig_saved.specs.SavedText.{saved_lines, journal_text}
use Rattle.irig_saved.specs.Ranges.{IsNumber, IsTime, IsPulse, IsSingle, IsChange, IsStep, AreSteps, IsSaved}
use Rattle.irig_saved.specs.declared.change.Change.TheVariants.{One, Group}
use Rattle.irig_saved.specs.{Lines.line, Lines.numbered, Lines.text_of, ChangeWords.head_of, ChangeWords.words_of, declared.single.Single.Single}
use Rattle.irig_saved.specs.{declared.single.Single.TheVariants.Splice, declared.change.Change.Change, declared.saved.Saved.Saved}
use Rattle.irig_saved.specs.declared.step.SavedStep.{SavedStep}
use Rattle.irig_codes.specs.{Words.kind_word, declared.format.Kind.Kind}
use Rattle.irig_recording.specs.declared.pulse.Pulse.{Pulse}
use Rattle.irig_saved.proofs.Rows.{Row, one_line, pulse_row, single_row, step_row}
use Rattle.irig_saved.proofs.SameWords.{unlike, small_is_number, word_at, byte_at, byte_is_word, kind_is_word, same_kind, head_is_word, words_are_words, Alike}
use Rattle.irig_saved.proofs.SameWords.{alike}
use Rattle.irig_saved.proofs.{Cuts.IsWord, Cuts.AreWords, Cuts.SameLine, Cuts.same_line, Decimals.number_is_word, Decimals.same_number, Texts.text_of_append}

-- the same value, and the same text after it
pub record Same {X : Type 0} (x y : X) (r s : List ℕ) : Type 0 where
  pub value : x ≡ y
  pub rest : r ≡ s

-- a line of a text
pub lined : (h g : List ℕ) (ws vs ls ms : List (List ℕ)) (r s : List ℕ) → IsWord h → IsWord g → AreWords ws → AreWords vs
    → text_of (line h ws ∷ ls) ++ r ≡ text_of (line g vs ∷ ms) ++ s → SameLine h g ws vs (text_of ls ++ r) (text_of ms ++ s)
lined h g ws vs ls ms r s hh hg hw hv e =
    same_line h g ws vs (text_of ls ++ r) (text_of ms ++ s) hh hg hw hv
    (sym (append_assoc (line h ws) (10 ∷ text_of ls) r) ∙ e ∙ append_assoc (line g vs) (10 ∷ text_of ms) s)

-- a text of some lines and others
pub regroup : (ls ms : List (List ℕ)) (r : List ℕ) → text_of (ls ++ ms) ++ r ≡ text_of ls ++ (text_of ms ++ r)
regroup ls ms r = ap (λ t. t ++ r) (text_of_append ls ms) ∙ append_assoc (text_of ls) (text_of ms) r

-- parts in a row are determined if each is
module _ {X : Type 0} (Is : X → Type 0) (lines : X → List (List ℕ)) (all : List X → List (List ℕ)) (row : Row lines all)
    (law : (x y : X) (r s : List ℕ) → Is x → Is y → text_of (lines x) ++ r ≡ text_of (lines y) ++ s → Same x y r s) where
  -- the lines of the first, and those of the others
  one_more : (x : X) (xs : List X) (r : List ℕ) → text_of (all (x ∷ xs)) ++ r ≡ text_of (lines x) ++ (text_of (all xs) ++ r)
  one_more x xs r = ap (λ (l : List (List ℕ)). text_of l ++ r) (row.next x xs) ∙ regroup (lines x) (all xs) r

  -- two rows of one length with one text are the same
  pub same_row : (xs ys : List X) (r s : List ℕ) → length xs ≡ length ys → AllByRecursion Is xs → AllByRecursion Is ys
      → text_of (all xs) ++ r ≡ text_of (all ys) ++ s → Same xs ys r s
  same_row [] [] r s n hx hy e =
      record { value = refl; rest = subst (λ (l : List (List ℕ)). text_of l ++ r ≡ text_of l ++ s) row.none e }
  same_row [] (y ∷ ys) r s n hx hy e = absurd (omega (arith, n))
  same_row (x ∷ xs) [] r s n hx hy e = absurd (omega (arith, n))
  same_row (x ∷ xs) (y ∷ ys) r s n hx hy e =
      let one = law x y (text_of (all xs) ++ r) (text_of (all ys) ++ s) hx.0 hy.0 (sym (one_more x xs r) ∙ e ∙ one_more y ys s) in
      let t = same_row xs ys r s (omega (arith, n)) hx.1 hy.1 one.rest in
      record { value = ap₂ (λ (a : X) (l : List X). a ∷ l) one.value t.value; rest = t.rest }

-- RISE FALL

pulse : ℕ → ℕ → Pulse
pulse rise fall = record { rise = rise; fall = fall }

-- pulses with the same times are one
same_times : (p q : Pulse) → p.rise ≡ q.rise → p.fall ≡ q.fall → p ≡ q
unfolding pulse
same_times p q rise fall = ap₂ pulse rise fall

-- the line of a pulse determines it
pub same_pulse : (p q : Pulse) (r s : List ℕ) → IsPulse p → IsPulse q → text_of (one_line p) ++ r ≡ text_of (one_line q) ++ s → Same p q r s
same_pulse p q r s hp hq e =
    let l = lined (decimal p.rise) (decimal q.rise) (decimal p.fall ∷ []) (decimal q.fall ∷ []) [] [] r s
    (number_is_word p.rise hp.0) (number_is_word q.rise hq.0) (number_is_word p.fall hp.1, tt) (number_is_word q.fall hq.1, tt) e in
    record {
      value = same_times p q (same_number p.rise q.rise hp.0 hq.0 l.head) (same_number p.fall q.fall hp.1 hq.1 (word_at 0 _ _ l.words));
      rest = l.rest;
    }

-- one change

same_put : (x y : Single) (r s : List ℕ) → IsSingle x → IsSingle y → Alike x y
    → text_of (pulse_lines (put_of x)) ++ r ≡ text_of (pulse_lines (put_of y)) ++ s → Same x y r s
same_put x (Splice at count put) r s hx hy a e =
    let h : IsSingle (Splice at count a.0) = subst IsSingle a.1 hx in
    let t = same_row IsPulse one_line pulse_lines pulse_row same_pulse a.0 put r s a.2 h.3 hy.3
    (ap (λ (l : Single). text_of (pulse_lines (put_of l)) ++ r) (sym a.1) ∙ e) in
    record { value = a.1 ∙ ap (λ (ps : List Pulse). Splice at count ps) t.value; rest = t.rest }
same_put x y r s hx hy same e = record { value = same; rest = ap (λ (l : Single). text_of (pulse_lines (put_of l)) ++ r) (sym same) ∙ e }

pub same_single : (x y : Single) (r s : List ℕ) → IsSingle x → IsSingle y
    → text_of (single_lines x) ++ r ≡ text_of (single_lines y) ++ s → Same x y r s
same_single x y r s hx hy e =
    let l = lined (head_of x) (head_of y) (words_of x) (words_of y) (pulse_lines (put_of x)) (pulse_lines (put_of y)) r s
    (head_is_word x) (head_is_word y) (words_are_words x hx) (words_are_words y hy) e in
    same_put x y r s hx hy (alike x y hx hy l.head l.words) l.rest

-- a change

pub no_group : (x : Single) → head_of x ≡ codes "group" → ⊥
no_group (Splice at count put) e = unlike (codes "splice") (codes "group") refl refl e
no_group x e = unlike (head_of x) (codes "group") refl refl e

counted_is_words : (n : ℕ) → IsNumber n → AreWords (decimal n ∷ [])
counted_is_words n h = (number_is_word n h, tt)

pub same_change : (c d : Change) (r s : List ℕ) → IsChange c → IsChange d
    → text_of (change_lines c) ++ r ≡ text_of (change_lines d) ++ s → Same c d r s
same_change (One x) (One y) r s hc hd e =
    let t = same_single x y r s hc hd e in
    record { value = ap One t.value; rest = t.rest }
same_change (One x) (Group ys) r s hc hd e =
    let l = lined (head_of x) (codes "group") (words_of x) (decimal (length ys) ∷ []) (pulse_lines (put_of x)) (singles_lines ys) r s
    (head_is_word x) refl (words_are_words x hc) (counted_is_words (length ys) hd.0) e in
    absurd (no_group x l.head)
same_change (Group xs) (One y) r s hc hd e =
    let l = lined (codes "group") (head_of y) (decimal (length xs) ∷ []) (words_of y) (singles_lines xs) (pulse_lines (put_of y)) r s
    refl (head_is_word y) (counted_is_words (length xs) hc.0) (words_are_words y hd) e in
    absurd (no_group y (sym l.head))
same_change (Group xs) (Group ys) r s hc hd e =
    let l = lined (codes "group") (codes "group") (decimal (length xs) ∷ []) (decimal (length ys) ∷ []) (singles_lines xs) (singles_lines ys) r s
    refl refl (counted_is_words (length xs) hc.0) (counted_is_words (length ys) hd.0) e in
    let t = same_row IsSingle single_lines singles_lines single_row same_single xs ys r s
    (same_number (length xs) (length ys) hc.0 hd.0 (word_at 0 _ _ l.words)) hc.1 hd.1 l.rest in
    record { value = ap Group t.value; rest = t.rest }

-- steps

step : ℕ → Change → SavedStep
step cursor change = record { cursor = cursor; change = change }

same_parts : (x y : SavedStep) → x.cursor ≡ y.cursor → x.change ≡ y.change → x ≡ y
unfolding step
same_parts x y cursor change = ap₂ step cursor change

pub same_step : (x y : SavedStep) (r s : List ℕ) → IsStep x → IsStep y
    → text_of (step_lines x) ++ r ≡ text_of (step_lines y) ++ s → Same x y r s
same_step x y r s hx hy e =
    let l = lined (codes "at") (codes "at") (decimal x.cursor ∷ []) (decimal y.cursor ∷ []) (change_lines x.change) (change_lines y.change) r s
    refl refl (counted_is_words x.cursor hx.0) (counted_is_words y.cursor hy.0) e in
    let t = same_change x.change y.change r s hx.1 hy.1 l.rest in
    record { value = same_parts x y (same_number x.cursor y.cursor hx.0 hy.0 (word_at 0 _ _ l.words)) t.value; rest = t.rest }

-- a word, how many steps there are, and the steps
pub same_counted : (h : List ℕ) (xs ys : List SavedStep) (r s : List ℕ) → IsWord h → AreSteps xs → AreSteps ys
    → text_of (counted_lines h xs) ++ r ≡ text_of (counted_lines h ys) ++ s → Same xs ys r s
same_counted h xs ys r s hh hx hy e =
    let l = lined h h (decimal (length xs) ∷ []) (decimal (length ys) ∷ []) (steps_lines xs) (steps_lines ys) r s
    hh hh (counted_is_words (length xs) hx.0) (counted_is_words (length ys) hy.0) e in
    same_row IsStep step_lines steps_lines step_row same_step xs ys r s
    (same_number (length xs) (length ys) hx.0 hy.0 (word_at 0 _ _ l.words)) hx.1 hy.1 l.rest

-- marks

-- a text that begins with the letter p
abbrev pub IsPast : List ℕ → Type 0
IsPast r = get_or r 0 0 ≡ 112

pub mark_words : (x t : ℕ) → 32 < x → IsNumber t → AreWords ((x ∷ []) ∷ decimal t ∷ [])
mark_words x t high small = (byte_is_word x high, (number_is_word t small, tt))

-- the line of a mark is not among those of later ones
pub no_mark : (x y t : ℕ) (ns : List (Option ℕ)) (ls : List (List ℕ)) (r s : List ℕ) → 32 < x → x < y → IsNumber t → AllByRecursion IsTime ns → IsPast s
    → text_of (line (codes "mark") ((x ∷ []) ∷ decimal t ∷ []) ∷ ls) ++ r ≡ text_of (mark_lines y ns) ++ s → ⊥
no_mark x y t [] ls r s high less small hn past e =
    let bad : 109 ≡ get_or s 0 0 = byte_at 0 _ _ e in omega (arith, bad, past)
no_mark x y t (None ∷ ns) ls r s high less small hn past e = no_mark x (y + 1) t ns ls r s high (omega (arith, less)) small hn.1 past e
no_mark x y t (Some u ∷ ns) ls r s high less small hn past e =
    let l = lined (codes "mark") (codes "mark") ((x ∷ []) ∷ decimal t ∷ []) ((y ∷ []) ∷ decimal u ∷ []) ls (mark_lines (y + 1) ns) r s
    refl refl (mark_words x t high small) (mark_words y u (omega (arith, high, less)) hn.0) e in
    let same : x ≡ y = byte_at 0 _ _ (word_at 0 _ _ l.words) in
    omega (arith, same, less)

pub same_marks : (x : ℕ) (ms ns : List (Option ℕ)) (r s : List ℕ) → 32 < x → length ms ≡ length ns → AllByRecursion IsTime ms → AllByRecursion IsTime ns
    → IsPast r → IsPast s → text_of (mark_lines x ms) ++ r ≡ text_of (mark_lines x ns) ++ s → Same ms ns r s
same_marks x [] [] r s high n hm hn pr ps e = record { value = refl; rest = e }
same_marks x [] (b ∷ ns) r s high n hm hn pr ps e = absurd (omega (arith, n))
same_marks x (a ∷ ms) [] r s high n hm hn pr ps e = absurd (omega (arith, n))
same_marks x (None ∷ ms) (None ∷ ns) r s high n hm hn pr ps e =
    let t = same_marks (x + 1) ms ns r s (omega (arith, high)) (omega (arith, n)) hm.1 hn.1 pr ps e in
    record { value = ap (λ (l : List (Option ℕ)). None ∷ l) t.value; rest = t.rest }
same_marks x (Some a ∷ ms) (None ∷ ns) r s high n hm hn pr ps e =
    absurd (no_mark x (x + 1) a ns (mark_lines (x + 1) ms) r s high (omega arith) hm.0 hn.1 ps e)
same_marks x (None ∷ ms) (Some b ∷ ns) r s high n hm hn pr ps e =
    absurd (no_mark x (x + 1) b ms (mark_lines (x + 1) ns) s r high (omega arith) hn.0 hm.1 pr (sym e))
same_marks x (Some a ∷ ms) (Some b ∷ ns) r s high n hm hn pr ps e =
    let l = lined (codes "mark") (codes "mark") ((x ∷ []) ∷ decimal a ∷ []) ((x ∷ []) ∷ decimal b ∷ []) (mark_lines (x + 1) ms) (mark_lines (x + 1) ns) r s
    refl refl (mark_words x a high hm.0) (mark_words x b high hn.0) e in
    let t = same_marks (x + 1) ms ns r s (omega (arith, high)) (omega (arith, n)) hm.1 hn.1 pr ps l.rest in
    record { value = ap₂ (λ (m : ℕ) (l : List (Option ℕ)). Some m ∷ l) (same_number a b hm.0 hn.0 (word_at 1 _ _ l.words)) t.value; rest = t.rest }

-- the whole

unfoldable pub saved : Kind → ℕ → ℕ → List (Option ℕ) → List SavedStep → List SavedStep → Saved
saved kind expression cursor marks past future =
    record { kind = kind; expression = expression; cursor = cursor; marks = marks; past = past; future = future }

same_fields : (s t : Saved) → s.kind ≡ t.kind → s.expression ≡ t.expression → s.cursor ≡ t.cursor → s.marks ≡ t.marks → s.past ≡ t.past → s.future ≡ t.future
    → s ≡ t
unfolding saved
same_fields s t kind expression cursor marks past future =
    ap₂ (λ k n. saved k n s.cursor s.marks s.past s.future) kind expression
    ∙ ap₂ (λ n (ms : List (Option ℕ)). saved t.kind t.expression n ms s.past s.future) cursor marks
    ∙ ap₂ (λ (ps fs : List SavedStep). saved t.kind t.expression t.cursor t.marks ps fs) past future

-- the text of the steps, and what is after it
abbrev after : Saved → List ℕ → List ℕ
after s r = text_of (counted_lines (codes "past") s.past) ++ (text_of (counted_lines (codes "future") s.future) ++ r)

three : (s : Saved) (r : List ℕ) → text_of (mark_lines 97 s.marks ++ counted_lines (codes "past") s.past ++ counted_lines (codes "future") s.future) ++ r
    ≡ text_of (mark_lines 97 s.marks) ++ after s r
three s r =
    regroup (mark_lines 97 s.marks ++ counted_lines (codes "past") s.past) (counted_lines (codes "future") s.future) r
    ∙ regroup (mark_lines 97 s.marks) (counted_lines (codes "past") s.past) (text_of (counted_lines (codes "future") s.future) ++ r)

pub same_saved : (s t : Saved) (r q : List ℕ) → IsSaved s → IsSaved t
    → text_of (saved_lines s) ++ r ≡ text_of (saved_lines t) ++ q → Same s t r q
same_saved s t r q hs ht e =
    let tail : Saved → List (List ℕ) = λ s. mark_lines 97 s.marks ++ counted_lines (codes "past") s.past ++ counted_lines (codes "future") s.future in
    let third : Saved → List (List ℕ) = λ s. numbered (codes "cursor") (s.cursor ∷ []) ∷ tail s in
    let second : Saved → List (List ℕ) = λ s. line (codes "format") (kind_word s.kind ∷ decimal s.expression ∷ []) ∷ third s in
    let named = lined (codes "irig-journal-1") (codes "irig-journal-1") [] [] (second s) (second t) r q refl refl tt tt e in
    let format = lined (codes "format") (codes "format") (kind_word s.kind ∷ decimal s.expression ∷ []) (kind_word t.kind ∷ decimal t.expression ∷ []) (third s)
    (third t) r q
    refl refl (kind_is_word s.kind, (number_is_word s.expression (small_is_number s.expression hs.expression), tt))
    (kind_is_word t.kind, (number_is_word t.expression (small_is_number t.expression ht.expression), tt)) named.rest in
    let cursor = lined (codes "cursor") (codes "cursor") (decimal s.cursor ∷ []) (decimal t.cursor ∷ []) (tail s) (tail t) r q
    refl refl (counted_is_words s.cursor hs.cursor) (counted_is_words t.cursor ht.cursor) format.rest in
    let marks = same_marks 97 s.marks t.marks (after s r) (after t q) (omega arith) (hs.letters ∙ sym ht.letters) hs.marks ht.marks refl refl
    (sym (three s r) ∙ cursor.rest ∙ three t q) in
    let past = same_counted (codes "past") s.past t.past (text_of (counted_lines (codes "future") s.future) ++ r)
    (text_of (counted_lines (codes "future") t.future) ++ q) refl hs.past ht.past marks.rest in
    let future = same_counted (codes "future") s.future t.future r q refl hs.future ht.future past.rest in
    record {
      value = same_fields s t (same_kind s.kind t.kind (word_at 0 _ _ format.words))
          (same_number s.expression t.expression (small_is_number s.expression hs.expression) (small_is_number t.expression ht.expression)
          (word_at 1 _ _ format.words))
          (same_number s.cursor t.cursor hs.cursor ht.cursor (word_at 0 _ _ cursor.words))
          marks.value past.value future.value;
      rest = future.rest;
    }

-- one text is that of one journal
pub same_journal : (s t : Saved) → IsSaved s → IsSaved t → journal_text s ≡ journal_text t → s ≡ t
unfolding journal_text
same_journal s t hs ht e = (same_saved s t [] [] hs ht (ap (λ (l : List ℕ). l ++ []) e)).value
