-- The bits of a frame grow by one element at either end.
use Rattle.std.proofs.Common.{◌≡◌, ℕ, suc, ◌+◌, ◌-◌, ◌*◌, ◌/◌, ◌^◌, ◌<◌, ◌++◌, Bool, true, false, cond, List, [], ◌∷◌, get_or, drop, length, sym, ap, ap₂, ◌∙◌}
use Rattle.std.proofs.Common.{arith}
use mir.Val.{bool_byte}
use Rattle.std.proofs.Math.Nat.{pow-suc}
use Rattle.std.proofs.lemmas.{Nat.pow-add, List.drop_more, List.length-append}
use Rattle.irig_codes.specs.{Ones.ones_of, Ones.raised, Reading.counts, declared.width.Element.Element, declared.width.Element.TheVariants.Zero}

-- a number grows from its last element on
pub ones-drop : (es : List Element) (i : ℕ) → i < length es → ones_of (drop i es) ≡ cond (counts (get_or es i Zero)) 1 0 + 2 * ones_of (drop (i + 1) es)
ones-drop es i h = ap ones_of (drop_more es i Zero h)

-- and by one element at its end
pub ones-append : (xs : List Element) (e : Element) → ones_of (xs ++ (e ∷ [])) ≡ ones_of xs + cond (counts e) (2 ^ length xs) 0
ones-append [] e = elim (counts e) as (λ b. cond b 1 0 + 2 * 0 ≡ 0 + cond b 1 0) [ true ↦ omega arith | false ↦ omega arith ]
ones-append (x ∷ xs) e =
    ap (λ n. cond (counts x) 1 0 + 2 * n) (ones-append xs e) ∙ spread (cond (counts x) 1 0) (ones_of xs) (counts e) (2 ^ length xs)
    ∙ ap (λ w. cond (counts x) 1 0 + 2 * ones_of xs + cond (counts e) w 0) (pow-two (length xs)) where
      spread : (a n : ℕ) (b : Bool) (w : ℕ) → a + 2 * (n + cond b w 0) ≡ a + 2 * n + cond b (2 * w) 0
      spread a n true w = omega arith
      spread a n false w = omega arith

      pow-two : (k : ℕ) → 2 * 2 ^ k ≡ 2 ^ suc k
      pow-two k = omega (arith, pow-suc 2 k)

-- one more element before those of a frame's end
pub of-more : (es : List Element) (i n : ℕ) (b : Bool) → length es ≡ 100 → i < 100 → b ≡ counts (get_or es (99 - i) Zero) → n ≡ ones_of (drop (100 - i) es)
    → 2 * n + bool_byte b ≡ ones_of (drop (100 - (i + 1)) es)
of-more es i n b l h e p =
    let here : 100 - (i + 1) ≡ 99 - i = omega arith in
    let next : 99 - i + 1 ≡ 100 - i = omega arith in
    swap n b ∙ ap (λ t. cond t 1 0 + 2 * n) e ∙ ap (λ m. cond (counts (get_or es (99 - i) Zero)) 1 0 + 2 * m) (p ∙ ap (λ j. ones_of (drop j es)) (sym next))
    ∙ sym (ones-drop es (99 - i) (omega arith)) ∙ ap (λ j. ones_of (drop j es)) (sym here) where
      swap : (n : ℕ) (b : Bool) → 2 * n + bool_byte b ≡ cond b 1 0 + 2 * n
      swap n true = omega arith
      swap n false = omega arith

pub of-below : (i n : ℕ) (b : Bool) → n < 2 ^ i → 2 * n + bool_byte b < 2 ^ (i + 1)
of-below i n true h = omega (arith, h, pow-add 2 i 1)
of-below i n false h = omega (arith, h, pow-add 2 i 1)

halved : (m v : ℕ) → v ≡ m * 2 → v / 2 ≡ m
halved m v h = omega (arith, h)

-- a frame so far, raised, goes down one place as an element comes in at the top
raised-more : (n v w u : ℕ) (b : Bool) → w * u ≡ 2 ^ 99 → v ≡ n * (u * 2) → (n + cond b w 0) * u ≡ v / 2 + cond b (2 ^ 99) 0
raised-more n v w u true h p = let half : v / 2 ≡ n * u = halved (n * u) v (p ∙ grind arith) in grind (arith, half, h)
raised-more n v w u false h p = let half : v / 2 ≡ n * u = halved (n * u) v (p ∙ grind arith) in grind (arith, half)

pub and-gathered : (n : ℕ) (b : Bool) (es : List Element) (e : Element) → length es < 100 → raised es ≡ n → counts e ≡ b
    → raised (es ++ (e ∷ [])) ≡ n / 2 + cond b (2 ^ 99) 0
and-gathered n b es e less p q =
    let long = length-append es (e ∷ []) in
    let left : 100 - length (es ++ (e ∷ [])) ≡ 99 - length es = omega (arith, long) in
    let more : 100 - length es ≡ 99 - length es + 1 = omega (arith, less) in
    let whole : length es + (99 - length es) ≡ 99 = omega (arith, less) in
    let top : 2 ^ length es * 2 ^ (99 - length es) ≡ 2 ^ 99 = sym (pow-add 2 (length es) (99 - length es)) ∙ ap (λ k. 2 ^ k) whole in
    let twice : n ≡ ones_of es * (2 ^ (99 - length es) * 2) = sym p ∙ ap (λ k. ones_of es * k) (ap (λ k. 2 ^ k) more ∙ pow-add 2 (99 - length es) 1) in
    ap₂ (λ m k. m * 2 ^ k) (ones-append es e ∙ ap (λ t. ones_of es + cond t (2 ^ length es) 0) q) left
    ∙ raised-more (ones_of es) n (2 ^ length es) (2 ^ (99 - length es)) b top twice
