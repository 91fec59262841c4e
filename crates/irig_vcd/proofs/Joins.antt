-- Words of two parts: those of the first and then those of the second, and a word that the cut goes through is one.
use Rattle.std.proofs.Common.{◌≡◌, ◌+◌, ◌++◌, ◌∷◌, [], ℕ, Bool, true, false, not, cond, List, length, refl, ap, sym, ◌∙◌, arith, append_assoc}
use Rattle.std.proofs.lemmas.List.{append-nil}
use Rattle.irig_vcd.specs.Code.Joins.{ends_inside, front_of, with_more}
use Rattle.irig_vcd.specs.Words.{WordKind, Word, is_space, words_from, before_space, kind_of_byte}

-- no bytes more
pub with_more-none : (ws : List Word) → with_more [] ws ≡ ws
with_more-none [] = refl
with_more-none (w ∷ []) = ap (λ bs. record { kind = w.kind; bytes = bs; offset = w.offset } ∷ []) (append-nil w.bytes)
with_more-none (w ∷ v ∷ ws) = ap (λ (l : List Word). w ∷ l) (with_more-none (v ∷ ws))

-- a word that is not the last, or gets no bytes, stays
after_word : (more : List ℕ) (w : Word) (ws : List Word) → (ws ≡ [] → more ≡ []) → with_more more (w ∷ ws) ≡ w ∷ with_more more ws
after_word more w [] none =
    ap (λ bs. record { kind = w.kind; bytes = bs; offset = w.offset } ∷ []) (ap (λ (l : List ℕ). w.bytes ++ l) (none refl) ∙ append-nil w.bytes)
after_word more w (v ∷ ws) none = refl

outside_step : (space : Bool) (b at : ℕ) (x : List ℕ) → (words_from (at + 1) false x ≡ [] → ends_inside false x ≡ false)
    → cond space (words_from (at + 1) false x) (record { kind = kind_of_byte b; bytes = b ∷ before_space x; offset = at } ∷ words_from (at + 1) true x) ≡ []
    → ends_inside (not space) x ≡ false
outside_step true b at x later none = later none
outside_step false b at x later none = absurd (cc none)

-- bytes without a word end outside a word
outside : (x : List ℕ) (at : ℕ) → words_from at false x ≡ [] → ends_inside false x ≡ false
outside [] at none = refl
outside (b ∷ x) at none = outside_step (is_space b) b at x (outside x (at + 1)) none

begun_step : (space : Bool) (kind : WordKind) (place b at : ℕ) (front x y : List ℕ)
    → with_more (front_of (ends_inside true x) y)
    (record { kind = kind; bytes = (front ++ b ∷ []) ++ before_space x; offset = place } ∷ words_from (at + 1) true x)
    ≡ record { kind = kind; bytes = (front ++ b ∷ []) ++ before_space (x ++ y); offset = place }
    ∷ with_more (front_of (ends_inside true x) y) (words_from (at + 1) true x)
    → with_more (front_of (ends_inside (not space) x) y)
    (record { kind = kind; bytes = front ++ cond space [] (b ∷ before_space x); offset = place }
    ∷ cond space (words_from (at + 1) false x) (words_from (at + 1) true x))
    ≡ record { kind = kind; bytes = front ++ cond space [] (b ∷ before_space (x ++ y)); offset = place }
    ∷ with_more (front_of (ends_inside (not space) x) y) (cond space (words_from (at + 1) false x) (words_from (at + 1) true x))
begun_step true kind place b at front x y later =
    after_word (front_of (ends_inside false x) y) (record { kind = kind; bytes = front ++ []; offset = place }) (words_from (at + 1) false x)
    (λ none. ap (λ i. front_of i y) (outside x (at + 1) none))
begun_step false kind place b at front x y later =
    ap (λ bs. with_more (front_of (ends_inside true x) y) (record { kind = kind; bytes = bs; offset = place } ∷ words_from (at + 1) true x))
    (sym (append_assoc front (b ∷ []) (before_space x)))
    ∙ later
    ∙ ap (λ bs. record { kind = kind; bytes = bs; offset = place } ∷ with_more (front_of (ends_inside true x) y) (words_from (at + 1) true x))
    (append_assoc front (b ∷ []) (before_space (x ++ y)))

-- a word that has begun before a part gets the rest of its bytes, here or after the cut
begun : (kind : WordKind) (place at : ℕ) (front x y : List ℕ)
    → with_more (front_of (ends_inside true x) y) (record { kind = kind; bytes = front ++ before_space x; offset = place } ∷ words_from at true x)
    ≡ record { kind = kind; bytes = front ++ before_space (x ++ y); offset = place } ∷ with_more (front_of (ends_inside true x) y) (words_from at true x)
begun kind place at front [] y = ap (λ bs. record { kind = kind; bytes = bs ++ before_space y; offset = place } ∷ []) (append-nil front)
begun kind place at front (b ∷ x) y = begun_step (is_space b) kind place b at front x y (begun kind place (at + 1) (front ++ b ∷ []) x y)

join_step : (space inside : Bool) (b at end : ℕ) (x y : List ℕ)
    → ((i : Bool) → words_from (at + 1) i (x ++ y)
    ≡ with_more (front_of (ends_inside i x) y) (words_from (at + 1) i x) ++ words_from end (ends_inside i x) y)
    → cond space (words_from (at + 1) false (x ++ y))
    (cond inside (words_from (at + 1) true (x ++ y))
    (record { kind = kind_of_byte b; bytes = b ∷ before_space (x ++ y); offset = at } ∷ words_from (at + 1) true (x ++ y)))
    ≡ with_more (front_of (ends_inside (not space) x) y)
    (cond space (words_from (at + 1) false x)
    (cond inside (words_from (at + 1) true x) (record { kind = kind_of_byte b; bytes = b ∷ before_space x; offset = at } ∷ words_from (at + 1) true x)))
    ++ words_from end (ends_inside (not space) x) y
join_step true inside b at end x y later = later false
join_step false true b at end x y later = later true
join_step false false b at end x y later =
    ap (λ (l : List Word). record { kind = kind_of_byte b; bytes = b ∷ before_space (x ++ y); offset = at } ∷ l) (later true)
    ∙ ap (λ (l : List Word). l ++ words_from end (ends_inside true x) y) (sym (begun (kind_of_byte b) at (at + 1) (b ∷ []) x y))

-- the words of two parts, after a byte that is of a word or is not
pub words_from-join : (x y : List ℕ) (at : ℕ) (inside : Bool) → words_from at inside (x ++ y)
    ≡ with_more (front_of (ends_inside inside x) y) (words_from at inside x) ++ words_from (at + length x) (ends_inside inside x) y
words_from-join [] y at inside = ap (λ n. words_from n inside y) (let e : at ≡ at + 0 = omega arith in e)
words_from-join (b ∷ x) y at inside =
    let e : at + 1 + length x ≡ at + length (b ∷ x) = omega arith in
    join_step (is_space b) inside b at (at + length (b ∷ x)) x y
    (λ i. words_from-join x y (at + 1) i
    ∙ ap (λ n. with_more (front_of (ends_inside i x) y) (words_from (at + 1) i x) ++ words_from n (ends_inside i x) y) e)

-- if the cut is not inside a word, each word is of one part
pub words_from-apart : (x y : List ℕ) (at : ℕ) (inside : Bool) → ends_inside inside x ≡ false
    → words_from at inside (x ++ y) ≡ words_from at inside x ++ words_from (at + length x) false y
words_from-apart x y at inside outside =
    words_from-join x y at inside
    ∙ ap (λ i. with_more (front_of i y) (words_from at inside x) ++ words_from (at + length x) i y) outside
    ∙ ap (λ (l : List Word). l ++ words_from (at + length x) false y) (with_more-none (words_from at inside x))

-- after white space no word goes on
pub ends_inside-space : (x : List ℕ) (b : ℕ) (inside : Bool) → is_space b ≡ true → ends_inside inside (x ++ b ∷ []) ≡ false
ends_inside-space [] b inside space = ap not space
ends_inside-space (a ∷ x) b inside space = ends_inside-space x b (not (is_space a)) space

-- a part after a cut outside words ends as the whole does
pub ends_inside-append : (x y : List ℕ) (inside : Bool) → ends_inside inside (x ++ y) ≡ ends_inside (ends_inside inside x) y
ends_inside-append [] y inside = refl
ends_inside-append (b ∷ x) y inside = ends_inside-append x y (not (is_space b))
