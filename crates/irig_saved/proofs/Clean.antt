-- Neither a newline nor a dollar is within a line of a saved journal.
use Rattle.std.proofs.Common.{◌≡◌, ◌==◌, ◌<◌, ◌≤◌, ◌+◌, ◌++◌, ◌∷◌, [], ℕ, true, not, List, Option, Some, None, length, decimal, codes, nat_lt, refl, ◌∙◌, arith}
use Rattle.std.specs.List.{AllByRecursion, list_all}
use Rattle.std.proofs.lemmas.{Bool.and_from, Bool.and_parts, Bool.not_from_false, Bool.ne_eqb, Bool.ltb-true, List.Folds.list_all-append}
use Rattle.irig_saved.specs.SavedText.{put_of, pulse_line, pulse_lines, single_lines, singles_lines, change_lines, step_lines, steps_lines, mark_lines}
use Rattle.irig_saved.specs.SavedText.{counted_lines, saved_lines}
use Rattle.irig_saved.specs.Ranges.{IsNumber, IsTime, IsPulse, IsSingle, IsChange, IsStep, AreSteps, IsSaved}
use Rattle.irig_saved.specs.{ChangeWords.head_of, ChangeWords.words_of, ChangeWords.single_line, declared.change.Change.TheVariants.One}
use Rattle.irig_saved.specs.{declared.change.Change.TheVariants.Group, Lines.behind, Lines.line, Lines.numbered, Reading.Lacks, declared.single.Single.Single}
use Rattle.irig_saved.specs.{declared.single.Single.TheVariants.Splice, declared.change.Change.Change, declared.saved.Saved.Saved}
use Rattle.irig_saved.specs.declared.step.SavedStep.{SavedStep}
use Rattle.irig_codes.specs.{Words.kind_word, declared.format.Kind.Kind}
use Rattle.irig_recording.specs.declared.pulse.Pulse.{Pulse}
use Rattle.irig_saved.proofs.SameWords.{byte_is_plain, small_is_number, kind_is_plain, head_is_plain, words_are_plain}
use Rattle.irig_saved.proofs.{PlainWords.IsPlain, PlainWords.ArePlain, Decimals.number_is_plain}

-- a byte that is in no line: up to the dollar, and not the space
pub record IsAside (b : ℕ) : Type 0 where
  pub low : b ≤ 36
  pub unlike : not (32 == b) ≡ true

pub newline : IsAside 10
newline = record { low = omega arith; unlike = refl }

pub dollar : IsAside 36
dollar = record { low = omega arith; unlike = refl }

-- a byte is in none of them
abbrev pub AllLack : ℕ → List (List ℕ) → Type 0
AllLack b [] = Unit {0}
AllLack b (l ∷ ls) = Lacks b l × AllLack b ls

-- no newline is within a line
abbrev pub AreLines : List (List ℕ) → Type 0
AreLines ls = AllLack 10 ls

pub lacks_append : (b : ℕ) (u v : List ℕ) → Lacks b u → Lacks b v → Lacks b (u ++ v)
lacks_append b u v hu hv = list_all-append (λ x. not (x == b)) u v ∙ and_from _ _ hu hv

pub all_append : (b : ℕ) (ls ms : List (List ℕ)) → AllLack b ls → AllLack b ms → AllLack b (ls ++ ms)
all_append b [] ms hl hm = hm
all_append b (l ∷ ls) ms hl hm = (hl.0, all_append b ls ms hl.1 hm)

-- words

plain_lacks : {b : ℕ} → IsAside b → (w : List ℕ) → IsPlain w → Lacks b w
plain_lacks a [] h = refl
plain_lacks {b} a (x ∷ w) h =
    let p = and_parts (nat_lt 36 x) (list_all (λ y. nat_lt 36 y) w) h in
    let above : 36 < x = ltb-true 36 x p.0 in
    let low : b ≤ 36 = a.low in
    and_from (not (x == b)) (list_all (λ y. not (y == b)) w) (not_from_false (x == b) (ne_eqb x b (λ e. omega (arith, above, e, low)))) (plain_lacks a w p.1)

words_lack : {b : ℕ} → IsAside b → (ws : List (List ℕ)) → ArePlain ws → AllLack b ws
words_lack a [] h = tt
words_lack a (w ∷ ws) h = (plain_lacks a w h.0, words_lack a ws h.1)

pub number_lacks : {b : ℕ} → IsAside b → (n : ℕ) → IsNumber n → Lacks b (decimal n)
number_lacks a n h = plain_lacks a (decimal n) (number_is_plain n h)

-- lines

behind_lacks : {b : ℕ} → IsAside b → (ws : List (List ℕ)) → AllLack b ws → Lacks b (behind ws)
behind_lacks a [] h = refl
behind_lacks {b} a (w ∷ ws) h = and_from (not (32 == b)) _ a.unlike (lacks_append b w (behind ws) h.0 (behind_lacks a ws h.1))

pub line_lacks : {b : ℕ} → IsAside b → (h : List ℕ) (ws : List (List ℕ)) → Lacks b h → AllLack b ws → Lacks b (line h ws)
line_lacks {b} a h ws hh hw = lacks_append b h (behind ws) hh (behind_lacks a ws hw)

pub counted_lacks : {b : ℕ} → IsAside b → (h : List ℕ) (n : ℕ) → Lacks b h → IsNumber n → Lacks b (numbered h (n ∷ []))
counted_lacks a h n hh small = line_lacks a h (decimal n ∷ []) hh (number_lacks a n small, tt)

pub pulse_lacks : {b : ℕ} → IsAside b → (p : Pulse) → IsPulse p → Lacks b (pulse_line p)
pulse_lacks a p h = counted_lacks a (decimal p.rise) p.fall (number_lacks a p.rise h.0) h.1

pub first_lacks : {b : ℕ} → IsAside b → (x : Single) → IsSingle x → Lacks b (single_line x)
first_lacks a x h = line_lacks a (head_of x) (words_of x) (plain_lacks a (head_of x) (head_is_plain x)) (words_lack a (words_of x) (words_are_plain x h))

pub mark_lacks : {b : ℕ} → IsAside b → (x t : ℕ) → Lacks b (x ∷ []) → IsNumber t → Lacks b (line (codes "mark") ((x ∷ []) ∷ decimal t ∷ []))
mark_lacks a x t other small = line_lacks a (codes "mark") ((x ∷ []) ∷ decimal t ∷ []) (plain_lacks a (codes "mark") refl) (other, (number_lacks a t small, tt))

pub format_lacks : {b : ℕ} → IsAside b → (kind : Kind) (n : ℕ) → n ≤ 7 → Lacks b (line (codes "format") (kind_word kind ∷ decimal n ∷ []))
format_lacks a kind n small =
    line_lacks a (codes "format") (kind_word kind ∷ decimal n ∷ []) (plain_lacks a (codes "format") refl)
    (plain_lacks a (kind_word kind) (kind_is_plain kind), (number_lacks a n (small_is_number n small), tt))

-- the lines of parts

pulses_clean : {b : ℕ} → IsAside b → (ps : List Pulse) → AllByRecursion IsPulse ps → AllLack b (pulse_lines ps)
pulses_clean a [] h = tt
pulses_clean a (p ∷ ps) h = (pulse_lacks a p h.0, pulses_clean a ps h.1)

put_are_pulses : (x : Single) → IsSingle x → AllByRecursion IsPulse (put_of x)
put_are_pulses (Splice at count put) h = h.3
put_are_pulses _ h = tt

pub single_clean : {b : ℕ} → IsAside b → (x : Single) → IsSingle x → AllLack b (single_lines x)
single_clean a x h = (first_lacks a x h, pulses_clean a (put_of x) (put_are_pulses x h))

singles_clean : {b : ℕ} → IsAside b → (xs : List Single) → AllByRecursion IsSingle xs → AllLack b (singles_lines xs)
singles_clean a [] h = tt
singles_clean {b} a (x ∷ xs) h = all_append b (single_lines x) (singles_lines xs) (single_clean a x h.0) (singles_clean a xs h.1)

change_clean : {b : ℕ} → IsAside b → (c : Change) → IsChange c → AllLack b (change_lines c)
change_clean a (One x) h = single_clean a x h
change_clean a (Group xs) h = (counted_lacks a (codes "group") (length xs) (plain_lacks a (codes "group") refl) h.0, singles_clean a xs h.1)

pub step_clean : {b : ℕ} → IsAside b → (s : SavedStep) → IsStep s → AllLack b (step_lines s)
step_clean a s h = (counted_lacks a (codes "at") s.cursor (plain_lacks a (codes "at") refl) h.0, change_clean a s.change h.1)

steps_clean : {b : ℕ} → IsAside b → (ss : List SavedStep) → AllByRecursion IsStep ss → AllLack b (steps_lines ss)
steps_clean a [] h = tt
steps_clean {b} a (s ∷ ss) h = all_append b (step_lines s) (steps_lines ss) (step_clean a s h.0) (steps_clean a ss h.1)

pub counted_clean : {b : ℕ} → IsAside b → (head : List ℕ) (ss : List SavedStep) → Lacks b head → AreSteps ss → AllLack b (counted_lines head ss)
counted_clean a head ss hh h = (counted_lacks a head (length ss) hh h.0, steps_clean a ss h.1)

marks_clean : {b : ℕ} → IsAside b → (x : ℕ) (ms : List (Option ℕ)) → 36 < x → AllByRecursion IsTime ms → AllLack b (mark_lines x ms)
marks_clean a x [] high h = tt
marks_clean a x (None ∷ ms) high h = marks_clean a (x + 1) ms (omega (arith, high)) h.1
marks_clean a x (Some t ∷ ms) high h = (
  mark_lacks a x t (plain_lacks a (x ∷ []) (byte_is_plain x high)) h.0,
  marks_clean a (x + 1) ms (omega (arith, high)) h.1,
)

pub saved_clean : {b : ℕ} → IsAside b → (s : Saved) → IsSaved s → AllLack b (saved_lines s)
saved_clean {b} a s h = (
  plain_lacks a (codes "irig-journal-1") refl,
  (
    format_lacks a s.kind s.expression h.expression,
    (
      counted_lacks a (codes "cursor") s.cursor (plain_lacks a (codes "cursor") refl) h.cursor,
      all_append b (mark_lines 97 s.marks ++ counted_lines (codes "past") s.past) (counted_lines (codes "future") s.future)
          (all_append b (mark_lines 97 s.marks) (counted_lines (codes "past") s.past) (marks_clean a 97 s.marks (omega arith) h.marks)
          (counted_clean a (codes "past") s.past (plain_lacks a (codes "past") refl) h.past))
          (counted_clean a (codes "future") s.future (plain_lacks a (codes "future") refl) h.future),
    ),
  ),
)
