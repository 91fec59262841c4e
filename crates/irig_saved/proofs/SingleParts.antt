-- The lines of one change.
use Rattle.std.proofs.Common.{◌≡◌, ◌++◌, ◌∷◌, [], ℕ, List, length, get_or, decimal, codes, refl, sym, ap, ap₂, subst, ◌∙◌, append_assoc, lit<, inl, inr, ◌⊎◌}
use Rattle.irig_saved.specs.SavedText.{put_of, pulse_lines, single_lines, singles_lines}
use Rattle.irig_saved.specs.{Lines.line, Lines.text_of, ChangeWords.head_of, ChangeWords.words_of, ChangeWords.single_line, Ranges.IsNumber, Ranges.IsSingle}
use Rattle.irig_saved.specs.{Ranges.ArePulses, Values.AreThree, Values.words_of_three, Reading.Reads, Reading.Stops, Reading.Lacks, Reading.IsShort}
use Rattle.irig_saved.specs.{declared.single.Single.Single, declared.single.Single.TheVariants.Splice, declared.single.Single.TheVariants.Toggle}
use Rattle.irig_recording.specs.declared.pulse.Pulse.{Pulse}
use Rattle.irig_saved.proofs.Clean.{newline, number_lacks, line_lacks, first_lacks, single_clean}
use Rattle.irig_saved.proofs.Carried.{Differs, carried, first_line_stops, other_line, lineless}
use Rattle.irig_saved.proofs.{Cuts.AreWords, Decimals.number_is_word, Decimals.same_number, SameWords.unlike, SameWords.head_is_word, SameWords.words_are_words}
use Rattle.irig_saved.proofs.{Unique.lined, Unique.same_single, Rows.single_row, Repeats.Family, Sequences.Both, Sequences.both, Sequences.line_behind_stops}

-- the first line of a splice
abbrev pub splice_line : ℕ × ℕ × ℕ → List ℕ
splice_line t = line (codes "splice") (words_of_three t)

abbrev splice_lines : ℕ × ℕ × ℕ → List (List ℕ)
splice_lines t = splice_line t ∷ []

-- the pulses whose number it gives
abbrev AreTheirs : ℕ × ℕ × ℕ → List Pulse → Type 0
AreTheirs t ps = ArePulses t.2 ps

three_are_words : (t : ℕ × ℕ × ℕ) → AreThree t → AreWords (words_of_three t)
three_are_words t h = (number_is_word t.0 h.0, (number_is_word t.1 h.1, (number_is_word t.2 h.2, tt)))

splice_lacks : (t : ℕ × ℕ × ℕ) → AreThree t → Lacks 10 (splice_line t)
splice_lacks t h = line_lacks newline (codes "splice") (words_of_three t) refl
    (number_lacks newline t.0 h.0, (number_lacks newline t.1 h.1, (number_lacks newline t.2 h.2, tt)))

same_three : (t u : ℕ × ℕ × ℕ) → AreThree t → AreThree u → splice_line t ≡ splice_line u → t ≡ u
same_three t u ht hu e =
    let l = lined (codes "splice") (codes "splice") (words_of_three t) (words_of_three u) [] [] [] [] refl refl (three_are_words t ht) (three_are_words u hu)
    (ap (λ (l : List ℕ). text_of (l ∷ []) ++ []) e) in
    let one = same_number t.0 u.0 ht.0 hu.0 (ap (λ (l : List (List ℕ)). get_or l 0 []) l.words) in
    let two = same_number t.1 u.1 ht.1 hu.1 (ap (λ (l : List (List ℕ)). get_or l 1 []) l.words) in
    let three = same_number t.2 u.2 ht.2 hu.2 (ap (λ (l : List (List ℕ)). get_or l 2 []) l.words) in
    triple t.0 u.0 t.1 u.1 t.2 u.2 one two three where
      triple : (a b c d e f : ℕ) → a ≡ b → c ≡ d → e ≡ f → (let k : ℕ × ℕ × ℕ = (a, c, e) in k) ≡ (b, d, f)
      triple a b c d e f one two three = ap₂ (λ x y. (let k : ℕ × ℕ × ℕ = (x, y, e) in k)) one two ∙ ap (λ z. (let k : ℕ × ℕ × ℕ = (b, d, z) in k)) three

-- no other change has the first line of a splice
other_head : (x : Single) (t : ℕ × ℕ × ℕ) → IsSingle x → AreThree t → (codes "splice" ≡ head_of x → ⊥) → splice_line t ≡ single_line x → ⊥
other_head x t h ht not e =
    not (lined (codes "splice") (head_of x) (words_of_three t) (words_of x) [] [] [] [] refl (head_is_word x) (three_are_words t ht) (words_are_words x h)
    (ap (λ (l : List ℕ). text_of (l ∷ []) ++ []) e)).head

pub splice_stops : (text l mid rest : List ℕ) (t : ℕ × ℕ × ℕ) → text ≡ l ++ 10 ∷ mid → Lacks 10 l → AreThree t → l ≡ splice_line t
    → Stops (ArePulses t.2) pulse_lines mid rest → Stops IsSingle single_lines text rest
splice_stops text l mid rest t cut whole ht e s =
    carried (Both AreThree AreTheirs splice_lines pulse_lines) IsSingle (both AreThree AreTheirs splice_lines pulse_lines) single_lines text rest to from
    (line_behind_stops AreThree AreTheirs splice_line pulse_lines splice_lacks same_three text l mid rest t cut ht e s) where
      to : (p : (ℕ × ℕ × ℕ) × List Pulse) → Both AreThree AreTheirs splice_lines pulse_lines p
          → (z : Single) × IsSingle z × (single_lines z ≡ both AreThree AreTheirs splice_lines pulse_lines p)
      to p h = (
        Splice p.0.0 p.0.1 p.1,
        (h.0.0, h.0.1, subst IsNumber (sym h.1.0) h.0.2, h.1.1),
        ap (λ n. line (codes "splice") (decimal p.0.0 ∷ decimal p.0.1 ∷ decimal n ∷ []) ∷ pulse_lines p.1) h.1.0,
      )

      apart : (x : Single) → IsSingle x → (codes "splice" ≡ head_of x → ⊥) → Differs text (single_lines x)
      apart x h not = other_line text l mid (single_line x) (pulse_lines (put_of x)) cut whole (first_lacks newline x h)
          (λ k. other_head x t h ht not (sym e ∙ k))

      from : (z : Single) → IsSingle z → ((p : (ℕ × ℕ × ℕ) × List Pulse) × Both AreThree AreTheirs splice_lines pulse_lines p
          × (both AreThree AreTheirs splice_lines pulse_lines p ≡ single_lines z)) ⊎ Differs text (single_lines z)
      from (Splice at count put) h = inl (((at, count, length put), put), ((h.0, h.1, h.2), (refl, h.3)), refl)
      from x h = inr (apart x h (λ k. unlike (codes "splice") (head_of x) refl refl k))

short_is_single : (x : Single) → IsShort x → IsSingle x
short_is_single (Splice at count put) h = absurd h
short_is_single _ h = h

short_puts_none : (x : Single) → IsShort x → pulse_lines (put_of x) ≡ []
short_puts_none (Splice at count put) h = absurd h
short_puts_none _ h = refl

pub short_reads : (text l rest : List ℕ) (x : Single) → text ≡ l ++ 10 ∷ rest → IsShort x → l ≡ single_line x → Reads IsSingle single_lines text x rest
short_reads text l rest x cut h e = record {
  lawful = short_is_single x h;
  same = cut ∙ ap (λ (w : List ℕ). w ++ 10 ∷ rest) e ∙ sym (append_assoc (single_line x) (10 ∷ []) rest)
      ∙ ap (λ (ls : List (List ℕ)). text_of (single_line x ∷ ls) ++ rest) (sym (short_puts_none x h));
}

pub no_change : Single
no_change = Toggle 0 0

pub no_change_lawful : IsSingle no_change
unfolding no_change
no_change_lawful = (lit< tt, lit< tt)

-- a line that is the first of no change
pub single_line_stops : (text l rest : List ℕ) → text ≡ l ++ 10 ∷ rest → Lacks 10 l
    → ((t : ℕ × ℕ × ℕ) → AreThree t → l ≡ splice_line t → ⊥) → ((x : Single) → IsShort x → l ≡ single_line x → ⊥)
    → Stops IsSingle single_lines text text
single_line_stops text l rest cut whole no_splice no_short =
    first_line_stops IsSingle single_lines text no_change no_change_lawful
    (λ x h. other_line text l rest (single_line x) (pulse_lines (put_of x)) cut whole (first_lacks newline x h) (none x h)) where
      none : (x : Single) → IsSingle x → l ≡ single_line x → ⊥
      none (Splice at count put) h e = no_splice (at, count, length put) (h.0, h.1, h.2) e
      none x h e = no_short x h e

pub no_single_stops : (text : List ℕ) → Lacks 10 text → Stops IsSingle single_lines text text
no_single_stops text lacks =
    first_line_stops IsSingle single_lines text no_change no_change_lawful (λ x h. lineless text (single_line x) (pulse_lines (put_of x)) lacks)

pub single_family : Family IsSingle single_lines singles_lines
single_family = record {
  row = single_row;
  clean = single_clean newline;
  law = same_single;
  some = no_change;
  lawful = no_change_lawful;
}
