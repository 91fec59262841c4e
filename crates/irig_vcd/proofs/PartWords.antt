-- The words of a part of a dump, at their places.
use Rattle.std.proofs.Common.{◌≡◌, ◌<◌, ◌≤◌, ◌+◌, ◌-◌, ◌∷◌, [], ℕ, zero, suc, Bool, true, false, cond, List, length, take, get_or, map, refl, ap, sym, ◌∙◌}
use Rattle.std.proofs.Common.{arith}
use Rattle.std.proofs.Math.Seq.{take-suc}
use Rattle.irig_vcd.specs.Words.{Word, is_space, words_from, before_space, kind_of_byte}
use Rattle.irig_vcd.specs.{Code.Joins.ends_inside, Code.Part.moved_word, Code.Part.words_at}
use Rattle.irig_vcd.proofs.Joins.{ends_inside-space}

-- after white space no word goes on
pub outside_at : (s : List ℕ) (at : ℕ) → at ≤ length s → (0 < at → is_space (get_or s (at - 1) 0) ≡ true) → ends_inside false (take at s) ≡ false
outside_at s zero within h = refl
outside_at s (suc n) within h =
    let e : suc n - 1 ≡ n = omega arith in
    let space : is_space (get_or s n 0) ≡ true = rw (← e) (h (omega arith)) in
    rw (take-suc s n 0 (omega arith)) (ends_inside-space (take n s) (get_or s n 0) false space)

moved_step : (space inside : Bool) (base : ℕ) (w : Word) (x y xs ys : List Word) → x ≡ map (moved_word base) xs → y ≡ map (moved_word base) ys
    → cond space x (cond inside y (moved_word base w ∷ y)) ≡ map (moved_word base) (cond space xs (cond inside ys (w ∷ ys)))
moved_step true inside base w x y xs ys h k = h
moved_step false true base w x y xs ys h k = k
moved_step false false base w x y xs ys h k = ap (λ (l : List Word). moved_word base w ∷ l) k

moved_words : (base at : ℕ) (inside : Bool) (bs : List ℕ) → words_from (base + at) inside bs ≡ map (moved_word base) (words_from at inside bs)
moved_words base at inside [] = refl
moved_words base at inside (b ∷ bs) =
    let e : base + at + 1 ≡ base + (at + 1) = omega arith in
    moved_step (is_space b) inside base (record { kind = kind_of_byte b; bytes = b ∷ before_space bs; offset = at }) _ _ (words_from (at + 1) false bs)
    (words_from (at + 1) true bs)
    (ap (λ n. words_from n false bs) e ∙ moved_words base (at + 1) false bs) (ap (λ n. words_from n true bs) e ∙ moved_words base (at + 1) true bs)

-- the words of a part are those of the whole at its place
pub words_there : (base : ℕ) (part : List ℕ) → words_at base part ≡ words_from base false part
words_there base part = sym (moved_words base 0 false part) ∙ ap (λ n. words_from n false part) (let e : base + 0 ≡ base = omega arith in e)
