-- The lines of a pulse in a buffer: made, with other digits, and written.
use Rattle.std.proofs.Common.{◌≡◌, ◌&&◌, zero, suc, T, eqb, eqb→eq, eq-zero-or-pos, get_or, inl, inr, ◌≤◌, ◌<◌, ◌+◌, ◌-◌, ◌*◌, ◌/◌, ◌%◌, ◌^◌, ◌==◌, ◌∷◌, ◌++◌}
use Rattle.std.proofs.Common.{[], ℕ, Bool, true, false, List, length, length-append, take, drop, set, decimal, refl, ap, sym, ◌∙◌, arith, append_assoc}
use lib.Ieee.Fits.{and_l, and_r}
use Rattle.std.proofs.Math.Seq.{take-append-add, take-append_seam, drop-append_seam, set-append_seam}
use Rattle.std.proofs.lemmas.{Bool.ne_eqb, Fmt.decimal_digit, Fmt.decimal_step, List.take-append-drop, List.drop-drop, List.drop-take, List.drop-set-add}
use Rattle.irig_recording.specs.KeptPulse.{HoldsPulse, last_four, front, pulse_parts}
use Rattle.irig_recording.specs.{FileText.lines_at, FileText.level_line, declared.kept_pulse.KeptPulse.KeptPulse, declared.kept_pulse.TheConstants.PAIRS}

-- a part of a list between others, replaced
pub part_put : (old new p a q x : List ℕ) (i : ℕ) → old ≡ p ++ (a ++ q) → length p ≡ i → length a ≡ 4 → take i new ≡ take i old
    → drop i new ≡ x ++ drop (i + 4) old → new ≡ p ++ (x ++ q)
part_put old new p a q x i is at four before behind =
    let first : take i old ≡ p = ap (take i) is ∙ (ap (λ n. take n (p ++ (a ++ q))) (sym at) ∙ take-append_seam p (a ++ q)) in
    let both : length (p ++ a) ≡ i + 4 = length-append p a ∙ omega (arith, at, four) in
    let last : drop (i + 4) old ≡ q = ap (drop (i + 4)) (is ∙ sym (append_assoc p a q))
    ∙ (ap (λ n. drop n ((p ++ a) ++ q)) (sym both) ∙ drop-append_seam (p ++ a) q) in
    sym (take-append-drop i new) ∙ (ap (λ (l : List ℕ). l ++ drop i new) (before ∙ first)
    ∙ ap (λ (l : List ℕ). p ++ l) (behind ∙ ap (λ (l : List ℕ). x ++ l) last))

-- other digits of the rise
pub rise_put : (k : ℕ) (old new rise fall pad x : List ℕ) (i : ℕ) → old ≡ pulse_parts k rise fall pad → length (front k) ≡ i → length rise ≡ 4
    → take i new ≡ take i old → drop i new ≡ x ++ drop (i + 4) old → new ≡ pulse_parts k x fall pad
rise_put k old new rise fall pad x i is at four before behind =
    part_put old new (front k) rise (10 ∷ 49 ∷ 33 ∷ 10 ∷ (front k ++ (fall ++ (10 ∷ 48 ∷ 33 ∷ 10 ∷ pad)))) x i is at four before behind

fall_apart : (k : ℕ) (rise z : List ℕ) → front k ++ (rise ++ (10 ∷ 49 ∷ 33 ∷ 10 ∷ (front k ++ z))) ≡ (front k ++ (rise ++ (10 ∷ 49 ∷ 33 ∷ 10 ∷ front k))) ++ z
fall_apart k rise z = sym (append_assoc (front k) (rise ++ (10 ∷ 49 ∷ 33 ∷ 10 ∷ front k)) z
    ∙ ap (λ (l : List ℕ). front k ++ l) (append_assoc rise (10 ∷ 49 ∷ 33 ∷ 10 ∷ front k) z))

-- other digits of the fall
pub fall_put : (k : ℕ) (old new rise fall pad x : List ℕ) (i : ℕ) → old ≡ pulse_parts k rise fall pad → 2 * length (front k) + 8 ≡ i → length rise ≡ 4
    → length fall ≡ 4
    → take i new ≡ take i old → drop i new ≡ x ++ drop (i + 4) old → new ≡ pulse_parts k rise x pad
fall_put k old new rise fall pad x i is at four more before behind =
    let p = front k ++ (rise ++ (10 ∷ 49 ∷ 33 ∷ 10 ∷ front k)) in
    let q = 10 ∷ 48 ∷ 33 ∷ 10 ∷ pad in
    let long : length p ≡ i = length-append (front k) (rise ++ (10 ∷ 49 ∷ 33 ∷ 10 ∷ front k))
    ∙ (ap (λ n. length (front k) + n) (length-append rise (10 ∷ 49 ∷ 33 ∷ 10 ∷ front k)) ∙ omega (arith, at, four)) in
    part_put old new p fall q x i (is ∙ fall_apart k rise (fall ++ q)) long more before behind ∙ sym (fall_apart k rise (x ++ q))

-- a number by its last two digits
two_last : (n : ℕ) → 100 ≤ n → n < 2 ^ 64 → decimal n ≡ decimal (n / 100) ++ ((48 + n % 100 / 10) ∷ (48 + n % 100 % 10) ∷ [])
two_last n some few =
    let high : n / 10 / 10 ≡ n / 100 = omega arith in
    let tens : n / 10 % 10 ≡ n % 100 / 10 = omega arith in
    let ones : n % 10 ≡ n % 100 % 10 = omega arith in
    decimal_step n (omega arith) few
    ∙ (ap (λ (l : List ℕ). l ++ ((48 + n % 10) ∷ [])) (decimal_step (n / 10) (omega arith) (omega arith))
    ∙ (append_assoc (decimal (n / 10 / 10)) ((48 + n / 10 % 10) ∷ []) ((48 + n % 10) ∷ [])
    ∙ rw (high, tens, ones) refl))

-- a number by its last four digits
pub four_last : (n : ℕ) → 10000 ≤ n → n < 2 ^ 64 → decimal n ≡ decimal (n / 10000) ++ last_four (n % 10000)
four_last n some few =
    let high : n / 100 / 100 ≡ n / 10000 = omega arith in
    let upper : n / 100 % 100 ≡ n % 10000 / 100 = omega arith in
    let lower : n % 100 ≡ n % 10000 % 100 = omega arith in
    two_last n (omega arith) few
    ∙ (ap (λ (l : List ℕ). l ++ ((48 + n % 100 / 10) ∷ (48 + n % 100 % 10) ∷ [])) (two_last (n / 100) (omega arith) (omega arith))
    ∙ (append_assoc (decimal (n / 100 / 100)) ((48 + n / 100 % 100 / 10) ∷ (48 + n / 100 % 100 % 10) ∷ []) ((48 + n % 100 / 10) ∷ (48 + n % 100 % 10) ∷ [])
    ∙ rw (high, upper, lower) refl))

-- the lines of an edge of a base
pub edge_line : (high : Bool) (base time : ℕ) → 10000 ≤ base → base % 10000 ≡ 0 → base ≤ time → time < base + 10000 → time < 2 ^ 64
    → lines_at high time ≡ front (base / 10000) ++ (last_four (time - base) ++ (10 ∷ level_line high))
edge_line high base time some whole from below few =
    let k : time / 10000 ≡ base / 10000 = omega (arith, whole) in
    let low : time % 10000 ≡ time - base = omega (arith, whole) in
    let apart : (time == 0) ≡ false = ne_eqb time 0 (λ e. omega (arith, e)) in
    let digits : decimal time ≡ decimal (base / 10000) ++ last_four (time - base) = four_last time (omega arith) few ∙ rw (k, low) refl in
    rw (apart, digits) (simp append_assoc)

-- an edge's lines by their parts
abbrev one_edge : ℕ → List ℕ → ℕ → List ℕ
one_edge k four level = front k ++ (four ++ (10 ∷ level ∷ 33 ∷ 10 ∷ []))

edge_apart : (k : ℕ) (four : List ℕ) (level : ℕ) (z : List ℕ) → one_edge k four level ++ z ≡ front k ++ (four ++ (10 ∷ level ∷ 33 ∷ 10 ∷ z))
edge_apart k four level z = append_assoc (front k) (four ++ (10 ∷ level ∷ 33 ∷ 10 ∷ [])) z
    ∙ ap (λ (l : List ℕ). front k ++ l) (append_assoc four (10 ∷ level ∷ 33 ∷ 10 ∷ []) z)

parts_apart : (k : ℕ) (rise fall pad : List ℕ) → pulse_parts k rise fall pad ≡ (one_edge k rise 49 ++ one_edge k fall 48) ++ pad
parts_apart k rise fall pad =
    sym (append_assoc (one_edge k rise 49) (one_edge k fall 48) pad
    ∙ (edge_apart k rise 49 (one_edge k fall 48 ++ pad) ∙ ap (λ (l : List ℕ). front k ++ (rise ++ (10 ∷ 49 ∷ 33 ∷ 10 ∷ l))) (edge_apart k fall 48 pad)))

-- the lines with one digit in front
pub one_in_front : (rise fall pad : List ℕ) → pulse_parts 1 rise fall pad ≡ 35 ∷ 49
    ∷ (rise ++ (10 ∷ 49 ∷ 33 ∷ 10 ∷ (35 ∷ 49 ∷ (fall ++ (10 ∷ 48 ∷ 33 ∷ 10 ∷ pad)))))
one_in_front rise fall pad = ap (λ (d : List ℕ). 35 ∷ (d ++ (rise ++ (10 ∷ 49 ∷ 33 ∷ 10 ∷ (35 ∷ (d ++ (fall ++ (10 ∷ 48 ∷ 33 ∷ 10 ∷ pad))))))))
    (decimal_digit 1 (omega arith))

-- the lines are written and what is after them is cut off
pub parts_put : (text bytes rise fall pad : List ℕ) (k long : ℕ) → bytes ≡ pulse_parts k rise fall pad → length rise ≡ 4 → length fall ≡ 4
    → length (front k) + 8 ≡ long → long ≤ 24
    → take (length text + 2 * long) (text ++ take 48 bytes) ≡ (text ++ (front k ++ (rise ++ (10 ∷ 49 ∷ 33 ∷ 10 ∷ []))))
    ++ (front k ++ (fall ++ (10 ∷ 48 ∷ 33 ∷ 10 ∷ [])))
parts_put text bytes rise fall pad k long is four more fits short =
    let one = front k ++ (rise ++ (10 ∷ 49 ∷ 33 ∷ 10 ∷ [])) in
    let two = front k ++ (fall ++ (10 ∷ 48 ∷ 33 ∷ 10 ∷ [])) in
    let whole : bytes ≡ (one ++ two) ++ pad = is ∙ parts_apart k rise fall pad in
    let a : length one ≡ long = length-append (front k) (rise ++ (10 ∷ 49 ∷ 33 ∷ 10 ∷ []))
    ∙ (ap (λ n. length (front k) + n) (length-append rise (10 ∷ 49 ∷ 33 ∷ 10 ∷ [])) ∙ omega (arith, four, fits)) in
    let b : length two ≡ long = length-append (front k) (fall ++ (10 ∷ 48 ∷ 33 ∷ 10 ∷ []))
    ∙ (ap (λ n. length (front k) + n) (length-append fall (10 ∷ 48 ∷ 33 ∷ 10 ∷ [])) ∙ omega (arith, more, fits)) in
    let both : length (one ++ two) ≡ 2 * long = length-append one two ∙ omega (arith, a, b) in
    let all : 48 ≡ length (one ++ two) + (48 - 2 * long) = omega (arith, both) in
    let first : take 48 bytes ≡ (one ++ two) ++ take (48 - 2 * long) pad = ap (λ n. take n bytes) all
    ∙ (ap (take (length (one ++ two) + (48 - 2 * long))) whole ∙ take-append-add (one ++ two) pad (48 - 2 * long)) in
    take-append-add text (take 48 bytes) (2 * long)
    ∙ (ap (λ (l : List ℕ). text ++ l) (ap (take (2 * long)) first
    ∙ (ap (λ n. take n ((one ++ two) ++ take (48 - 2 * long) pad)) (sym both) ∙ take-append_seam (one ++ two) (take (48 - 2 * long) pad)))
    ∙ sym (append_assoc text one two))

-- other digits of both
pub digits_put : (p : KeptPulse) (one two x y : List ℕ) (h : HoldsPulse p) → length x ≡ 4
    → take (p.long - 8) one ≡ take (p.long - 8) p.bytes → drop (p.long - 8) one ≡ x ++ drop (p.long - 8 + 4) p.bytes
    → take (2 * p.long - 8) two ≡ take (2 * p.long - 8) one → drop (2 * p.long - 8) two ≡ y ++ drop (2 * p.long - 8 + 4) one
    → two ≡ pulse_parts (p.base / 10000) x y h.pad
digits_put p one two x y h four a b d e =
    let k = p.base / 10000 in
    let first = rise_put k p.bytes one h.rise h.fall h.pad x (p.long - 8) h.is (omega (arith, h.fits)) h.of_rise a b in
    fall_put k one two x h.fall h.pad y (2 * p.long - 8) first (omega (arith, h.fits)) four h.of_fall d e

-- two digits after two
pub four_written : (old one two : List ℕ) (at a b d e : ℕ) → drop at one ≡ a ∷ b ∷ drop (at + 2) old → take (at + 2) two ≡ take (at + 2) one
    → drop (at + 2) two ≡ d ∷ e ∷ drop (at + 2 + 2) one
    → drop at two ≡ a ∷ b ∷ d ∷ e ∷ drop (at + 4) old
four_written old one two at a b d e first same last =
    let upper : take 2 (drop at two) ≡ a ∷ b ∷ [] = sym (drop-take at 2 two) ∙ (ap (drop at) same ∙ (drop-take at 2 one ∙ ap (take 2) first)) in
    let four : at + 2 + 2 ≡ at + 4 = omega arith in
    let left : drop (at + 2 + 2) one ≡ drop (at + 4) old = ap (λ n. drop n one) four
    ∙ (sym (drop-drop 4 at one) ∙ (ap (drop 4) first ∙ (drop-drop 2 (at + 2) old ∙ ap (λ n. drop n old) four))) in
    let lower : drop 2 (drop at two) ≡ d ∷ e ∷ drop (at + 4) old = drop-drop 2 at two ∙ (last ∙ ap (λ (l : List ℕ). d ∷ e ∷ l) left) in
    sym (take-append-drop 2 (drop at two)) ∙ (ap (λ (l : List ℕ). l ++ drop 2 (drop at two)) upper ∙ ap (λ (l : List ℕ). a ∷ b ∷ l) lower)

-- the numbers below one have their digits in the table
are_told : ℕ → Bool
are_told zero = true
are_told (suc n) = (eqb (get_or PAIRS (2 * n) 0) (48 + n / 10) && eqb (get_or PAIRS (2 * n + 1) 0) (48 + n % 10)) && are_told n

told_below : (all n : ℕ) → T (are_told all) → n < all → (get_or PAIRS (2 * n) 0 ≡ 48 + n / 10) × (get_or PAIRS (2 * n + 1) 0 ≡ 48 + n % 10)
unfolding are_told
told_below zero n told few = absurd (omega arith)
told_below (suc all) n told few = elim (eq-zero-or-pos (all - n)) [
  | inl none ↦ (let is : n ≡ all = omega arith in let here = and_l _ (are_told all) told in rw is (eqb→eq _ _ (and_l _ _ here), eqb→eq _ _ (and_r _ _ here)))
  | inr some ↦ told_below all n (and_r _ (are_told all) told) (omega arith)
]

pub pair_told : (n : ℕ) → n < 100 → (get_or PAIRS (2 * n) 0 ≡ 48 + n / 10) × (get_or PAIRS (2 * n + 1) 0 ≡ 48 + n % 10)
unfolding are_told
pair_told n few = told_below 100 n tt few

-- a level in a line from a place on
pub level_again : (line digits pad : List ℕ) (start old level : ℕ) → drop start line ≡ 35 ∷ digits ++ (10 ∷ old ∷ 33 ∷ 10 ∷ pad)
    → start + 1 + length digits ≡ 21
    → drop start (set line 22 level) ≡ 35 ∷ digits ++ (10 ∷ level ∷ 33 ∷ 10 ∷ pad)
level_again line digits pad start old level is at =
    let place : 22 ≡ start + (22 - start) = omega arith in
    let long : length ((35 ∷ digits) ++ (10 ∷ [])) ≡ 22 - start = length-append (35 ∷ digits) (10 ∷ []) ∙ omega (arith, at) in
    ap (λ n. drop start (set line n level)) place
    ∙ (drop-set-add start line (22 - start) level
    ∙ (ap (λ (l : List ℕ). set l (22 - start) level) (is ∙ sym (append_assoc (35 ∷ digits) (10 ∷ []) (old ∷ 33 ∷ 10 ∷ pad)))
    ∙ (ap (λ n. set (((35 ∷ digits) ++ (10 ∷ [])) ++ (old ∷ 33 ∷ 10 ∷ pad)) n level) (sym long)
    ∙ (set-append_seam ((35 ∷ digits) ++ (10 ∷ [])) old (33 ∷ 10 ∷ pad) level
    ∙ append_assoc (35 ∷ digits) (10 ∷ []) (level ∷ 33 ∷ 10 ∷ pad)))))

-- 24 bytes of a line
line_taken : (line digits pad : List ℕ) (start k level : ℕ) (four : List ℕ) → drop start line ≡ 35 ∷ digits ++ (10 ∷ level ∷ 33 ∷ 10 ∷ pad)
    → digits ≡ decimal k ++ four → length (one_edge k four level) ≡ 25 - start → 1 ≤ start → start ≤ 21
    → take 24 (drop start line) ≡ one_edge k four level ++ take (start - 1) pad
line_taken line digits pad start k level four is same long some near =
    let whole : drop start line ≡ one_edge k four level ++ pad = is ∙ (ap (λ (l : List ℕ). 35 ∷ l ++ (10 ∷ level ∷ 33 ∷ 10 ∷ pad)) same ∙ simp append_assoc) in
    let all : 24 ≡ length (one_edge k four level) + (start - 1) = omega (arith, long) in
    ap (λ n. take n (drop start line)) all ∙ (ap (take (length (one_edge k four level) + (start - 1))) whole
    ∙ take-append-add (one_edge k four level) pad (start - 1))

-- the lines of both edges, copied one after the other
pub lines_made : (high_line low_line old one two pad : List ℕ) (start k : ℕ) (digits four : List ℕ) → digits ≡ decimal k ++ four → length four ≡ 4
    → start + 1 + length digits ≡ 21 → 1 ≤ start
    → drop start high_line ≡ 35 ∷ digits ++ (10 ∷ 49 ∷ 33 ∷ 10 ∷ pad) → drop start low_line ≡ 35 ∷ digits ++ (10 ∷ 48 ∷ 33 ∷ 10 ∷ pad)
    → one ≡ take 0 old ++ (take 24 (drop start high_line) ++ drop 24 old)
    → two ≡ take (25 - start) one ++ (take 24 (drop start low_line) ++ drop (25 - start + 24) one)
    → two ≡ pulse_parts k four four (take (start - 1) pad ++ drop (25 - start + 24) one)
lines_made high_line low_line old one two pad start k digits four same of_four at some high low first second =
    let some_digits : length digits ≡ length (decimal k) + 4 = ap length same ∙ (length-append (decimal k) four ∙ omega (arith, of_four)) in
    let long : length (one_edge k four 49) ≡ 25 - start = length-append (front k) (four ++ (10 ∷ 49 ∷ 33 ∷ 10 ∷ []))
    ∙ (ap (λ n. length (front k) + n) (length-append four (10 ∷ 49 ∷ 33 ∷ 10 ∷ [])) ∙ omega (arith, of_four, some_digits, at)) in
    let again : length (one_edge k four 48) ≡ 25 - start = length-append (front k) (four ++ (10 ∷ 48 ∷ 33 ∷ 10 ∷ []))
    ∙ (ap (λ n. length (front k) + n) (length-append four (10 ∷ 48 ∷ 33 ∷ 10 ∷ [])) ∙ omega (arith, of_four, some_digits, at)) in
    let a = line_taken high_line digits pad start k 49 four high same long some (omega arith) in
    let b = line_taken low_line digits pad start k 48 four low same again some (omega arith) in
    let rest = take (start - 1) pad ++ drop 24 old in
    let risen : one ≡ one_edge k four 49 ++ rest = first ∙ (ap (λ (l : List ℕ). l ++ drop 24 old) a
    ∙ append_assoc (one_edge k four 49) (take (start - 1) pad) (drop 24 old)) in
    let front_is : take (25 - start) one ≡ one_edge k four 49 = ap (take (25 - start)) risen
    ∙ (ap (λ n. take n (one_edge k four 49 ++ rest)) (sym long) ∙ take-append_seam (one_edge k four 49) rest) in
    let left = drop (25 - start + 24) one in
    second ∙ (ap (λ (l : List ℕ). l ++ (take 24 (drop start low_line) ++ left)) front_is ∙ (ap (λ (l : List ℕ). one_edge k four 49 ++ (l ++ left)) b
    ∙ (ap (λ (l : List ℕ). one_edge k four 49 ++ l) (append_assoc (one_edge k four 48) (take (start - 1) pad) left)
    ∙ (sym (append_assoc (one_edge k four 49) (one_edge k four 48) (take (start - 1) pad ++ left))
    ∙ sym (parts_apart k four four (take (start - 1) pad ++ left))))))
