-- The elements that carry a bit, as a mask, and the first that is One outside it.
use Rattle.std.proofs.Common.{◌≡◌, ℕ, zero, suc, ◌+◌, ◌-◌, ◌*◌, ◌/◌, ◌^◌, ◌<◌, Bool, true, false, cond, List, [], ◌∷◌, get_or, length, Option, Some, None, refl}
use Rattle.std.proofs.Common.{sym, ap, ◌∙◌, arith, bit_and}
use Rattle.std.specs.Int.{bit_at, bit_not, trailing_zeros, w128}
use Rattle.std.specs.Prelude.{min}
use Rattle.std.proofs.lemmas.Nat.{and_le_r}
use Rattle.std.proofs.lemmas.Nat.Bits.{bit_at-suc, bit_at-zero, bit_at-lt, bit_at_and, bit_at_not, bit_at-trailing_zeros}
use Rattle.irig_codes.specs.Format.{FormatView, has_control, has_sbs, has_year}
use Rattle.irig_codes.specs.declared.layout.Slot.TheVariants.{Identifier, Unused, Bit}
use Rattle.irig_codes.specs.declared.width.Element.TheVariants.{Zero, One, Position}
use Rattle.irig_codes.specs.{Ones.ones_of, Ones.IsLowestOutside, Used.used_of, Reading.counts, Reading.is_one, Slots.slots_at, Wrong.is_stray_at}
use Rattle.irig_codes.specs.{Wrong.stray_from, declared.layout.Slot.Slot, declared.width.Element.Element}
use Rattle.irig_codes.proofs.{Slots.length-slots, OnesLemmas.bit-ones}

-- whether a slot carries a bit
abbrev is_bit : Slot → Bool
is_bit (Bit d p) = true
is_bit _ = false

half : (n : ℕ) → 2 * n / 2 ≡ n
half n = omega arith

bit-used : (ss : List Slot) (i : ℕ) → bit_at (used_of ss) i ≡ cond (is_bit (get_or ss i Unused)) 1 0
bit-used [] i = bit_at-zero i
bit-used (Identifier ∷ ss) zero = omega arith
bit-used (Unused ∷ ss) zero = omega arith
bit-used (Bit d p ∷ ss) zero = omega arith
bit-used (Identifier ∷ ss) (suc i) = bit_at-suc (2 * used_of ss) i ∙ ap (λ n. bit_at n i) (half (used_of ss)) ∙ bit-used ss i
bit-used (Unused ∷ ss) (suc i) = bit_at-suc (2 * used_of ss) i ∙ ap (λ n. bit_at n i) (half (used_of ss)) ∙ bit-used ss i
bit-used (Bit d p ∷ ss) (suc i) = bit_at-suc (1 + 2 * used_of ss) i ∙ ap (λ n. bit_at n i) (half_odd (used_of ss)) ∙ bit-used ss i where
  half_odd : (n : ℕ) → (1 + 2 * n) / 2 ≡ n
  half_odd n = omega arith

stray-here : (s : Slot) (x : Element) → counts x ≡ true → is_bit s ≡ false → is_stray_at s x ≡ true
stray-here Identifier One h g = refl
stray-here Unused One h g = refl
stray-here (Bit d p) One h g = absurd (cc g)
stray-here s Zero h g = absurd (cc h)
stray-here s Position h g = absurd (cc h)

stray-not-here : (s : Slot) (x : Element) → (counts x ≡ true → is_bit s ≡ true) → is_stray_at s x ≡ false
stray-not-here Identifier Zero h = refl
stray-not-here Identifier Position h = refl
stray-not-here Identifier One h = sym (h refl)
stray-not-here Unused Zero h = refl
stray-not-here Unused Position h = refl
stray-not-here Unused One h = sym (h refl)
stray-not-here (Bit d p) Zero h = refl
stray-not-here (Bit d p) One h = refl
stray-not-here (Bit d p) Position h = refl

stray-first : (ss : List Slot) (es : List Element) (e t : ℕ) → length ss ≡ length es → is_stray_at (get_or ss t Unused) (get_or es t Zero) ≡ true →
    ((i : ℕ) → i < t → is_stray_at (get_or ss i Unused) (get_or es i Zero) ≡ false) → stray_from e ss es ≡ Some (e + t)
stray-first [] [] e t l h g = absurd (cc h)
stray-first [] (x ∷ xs) e t l h g = absurd (omega (arith, l))
stray-first (s ∷ ss) [] e t l h g = absurd (omega (arith, l))
stray-first (s ∷ ss) (x ∷ xs) e zero l h g = ap (λ b. cond b (Some e) (stray_from (e + 1) ss xs)) h ∙ ap Some (omega arith)
stray-first (s ∷ ss) (x ∷ xs) e (suc t) l h g =
    ap (λ b. cond b (Some e) (stray_from (e + 1) ss xs)) (g 0 (omega arith))
    ∙ stray-first ss xs (e + 1) t (omega (arith, l)) h (λ i b. g (suc i) (omega arith)) ∙ ap Some (omega arith)

stray-none : (ss : List Slot) (es : List Element) (e : ℕ) → ((i : ℕ) → i < length es → is_stray_at (get_or ss i Unused) (get_or es i Zero) ≡ false)
    → stray_from e ss es ≡ None
stray-none [] es e g = refl
stray-none (s ∷ ss) [] e g = refl
stray-none (s ∷ ss) (x ∷ xs) e g =
    ap (λ b. cond b (Some e) (stray_from (e + 1) ss xs)) (g 0 (omega arith)) ∙ stray-none ss xs (e + 1) (λ i b. g (suc i) (omega arith))

is-true : (b : Bool) → ◌≡◌ {A = ℕ} (cond b 1 0) 1 → b ≡ true
is-true true h = refl
is-true false h = absurd (omega (arith, h))

is-false : (b : Bool) → ◌≡◌ {A = ℕ} (cond b 1 0) 0 → b ≡ false
is-false true h = absurd (omega (arith, h))
is-false false h = refl

kept : (ss : List Slot) (es : List Element) (i : ℕ) → (bit_at (ones_of es) i ≡ 1 → bit_at (used_of ss) i ≡ 1)
    → is_stray_at (get_or ss i Unused) (get_or es i Zero) ≡ false
kept ss es i h =
    stray-not-here (get_or ss i Unused) (get_or es i Zero)
    (λ e. is-true (is_bit (get_or ss i Unused)) (sym (bit-used ss i) ∙ h (bit-ones es i ∙ ap (λ b. cond b 1 0) e)))

-- the first stray element is the lowest bit outside the mask
pub stray-gathered : (f : FormatView) (es : List Element) (o : Option ℕ) → length es ≡ 100 → IsLowestOutside (ones_of es) (used_of (slots_at f)) o
    → o ≡ stray_from 0 (slots_at f) es
stray-gathered f es None h g = sym (stray-none (slots_at f) es 0 (λ i b. kept (slots_at f) es i (g i (omega (arith, h)))))
stray-gathered f es (Some t) h g =
    let ss = slots_at f in
    let long : length ss ≡ length es = length-slots f.kind (has_control f.expression) (has_sbs f.expression) (has_year f.expression) ∙ sym h in
    let one : counts (get_or es t Zero) ≡ true = is-true (is_one es t) (sym (bit-ones es t) ∙ g.1) in
    let free : is_bit (get_or ss t Unused) ≡ false = is-false (is_bit (get_or ss t Unused)) (sym (bit-used ss t) ∙ g.2) in
    sym (stray-first ss es 0 t long (stray-here (get_or ss t Unused) (get_or es t Zero) one free) (λ i b. kept ss es i (g.3 i b)) ∙ ap Some (omega arith))

-- the lowest bit of a number outside a mask
outside : (n m i : ℕ) → m < 2 ^ 128 → i < 128 → bit_at (bit_and n (bit_not w128 m)) i ≡ min (bit_at n i) (1 - bit_at m i)
outside n m i h b = bit_at_and n (bit_not w128 m) i ∙ ap (min (bit_at n i)) (bit_at_not w128 m i h b)

covered : (a b : ℕ) → a ≡ 1 → b < 2 → min a (1 - b) ≡ 0 → b ≡ 1
covered a b p h q = omega (arith, p, q)

found : (a b : ℕ) → a < 2 → b < 2 → min a (1 - b) ≡ 1 → (a ≡ 1) × (b ≡ 0)
found a b h g q = (omega (arith, q), omega (arith, q))

pub none-outside : (n m : ℕ) → m < 2 ^ 128 → bit_and n (bit_not w128 m) ≡ 0 → IsLowestOutside n m None
none-outside n m h z i b e = covered (bit_at n i) (bit_at m i) e (bit_at-lt m i) (sym (outside n m i h b) ∙ ap (λ r. bit_at r i) z ∙ bit_at-zero i)

pub some-outside : (n m : ℕ) → m < 2 ^ 128 → 0 < bit_and n (bit_not w128 m) → IsLowestOutside n m (Some (trailing_zeros w128 (bit_and n (bit_not w128 m))))
some-outside n m h p =
    let r = bit_and n (bit_not w128 m) in
    let t = trailing_zeros w128 r in
    let low = bit_at-trailing_zeros w128 r p (omega (arith, and_le_r n (bit_not w128 m))) in
    let at = found (bit_at n t) (bit_at m t) (bit_at-lt n t) (bit_at-lt m t) (sym (outside n m t h low.0) ∙ low.1) in
    (low.0, at.0, at.1, λ i b e. covered (bit_at n i) (bit_at m i) e (bit_at-lt m i) (sym (outside n m i h (omega (arith, b, low.0))) ∙ low.2 i b))
