-- Digits of a number whose point is moved.
use Rattle.std.proofs.Common.{◌≡◌, ℕ, zero, suc, ◌+◌, ◌-◌, ◌*◌, ◌^◌, ◌≤◌, ◌++◌, ◌||◌, ◌&&◌, Bool, true, false, List, [], ◌∷◌, length, take, drop, min, refl, sym, ap, ◌∙◌}
use Rattle.std.proofs.Common.{Option, Some, None, inl, inr, arith, ◌==◌}
use Rattle.std.specs.Prelude.{option_map}
use Rattle.std.proofs.lemmas.Bool.{cases_lt}
use Rattle.irig_stamps.specs.Numbers.{capped, with_sign}
use Rattle.irig_stamps.specs.Points.{digits_after, has_more, has_weight, kept, padded, rounded, scaled, with_one}
use Rattle.irig_stamps.proofs.Digits.{digits_after-append, kept-at-most}

with_sign-capped : (negative : Bool) (v : Option ℕ) → with_sign negative (option_map (λ x. min x (2 ^ 120)) v) ≡ option_map capped (with_sign negative v)
with_sign-capped negative None = refl
with_sign-capped negative (Some v) = refl

none-more : (k : ℕ) → 0 + k ≡ k
none-more k = omega arith

one-more : (j k : ℕ) → suc j + k ≡ suc (j + k)
one-more j k = omega arith

pub with_sign-is : (negative : Bool) (size v : Option ℕ) → size ≡ option_map (λ x. min x (2 ^ 120)) v
    → with_sign negative size ≡ option_map capped (with_sign negative v)
with_sign-is negative size v e = ap (with_sign negative) e ∙ with_sign-capped negative v

-- digits past all of the first ones
pub padded-whole : (xs ys : List ℕ) (k : ℕ) → padded (length xs + k) (xs ++ ys) ≡ xs ++ padded k ys
padded-whole [] ys k = ap (λ n. padded n ys) (none-more k)
padded-whole (x ∷ xs) ys k = ap (λ n. padded n (x ∷ (xs ++ ys))) (one-more (length xs) k) ∙ ap (λ l. x ∷ l) (padded-whole xs ys k)

-- no more than the first ones
pub padded-take : (k : ℕ) (xs ys : List ℕ) → k ≤ length xs → padded k (xs ++ ys) ≡ take k xs
padded-take zero xs ys h = refl
padded-take (suc k) [] ys h = absurd (omega (arith, h))
padded-take (suc k) (x ∷ xs) ys h = ap (λ l. x ∷ l) (padded-take k xs ys (omega (arith, h)))

pub drop-whole : (xs ys : List ℕ) (k : ℕ) → drop (length xs + k) (xs ++ ys) ≡ drop k ys
drop-whole [] ys k = ap (λ n. drop n ys) (none-more k)
drop-whole (x ∷ xs) ys k = ap (λ n. drop n (x ∷ (xs ++ ys))) (one-more (length xs) k) ∙ drop-whole xs ys k

pub drop-within : (k : ℕ) (xs ys : List ℕ) → k ≤ length xs → drop k (xs ++ ys) ≡ drop k xs ++ ys
drop-within zero xs ys h = refl
drop-within (suc k) [] ys h = absurd (omega (arith, h))
drop-within (suc k) (x ∷ xs) ys h = drop-within k xs ys (omega (arith, h))

pub drop-past : (k : ℕ) (xs : List ℕ) → length xs ≤ k → drop k xs ≡ []
drop-past zero [] h = refl
drop-past (suc k) [] h = refl
drop-past zero (x ∷ xs) h = absurd (omega (arith, h))
drop-past (suc k) (x ∷ xs) h = drop-past k xs (omega (arith, h))

weight-or : (b : Bool) (x : ℕ) (xs ys : List ℕ) → has_weight (xs ++ ys) ≡ (has_weight xs || has_weight ys) → (x == 48) ≡ b
    → has_weight (x ∷ (xs ++ ys)) ≡ (has_weight (x ∷ xs) || has_weight ys)
weight-or true x xs ys h e = rw e h
weight-or false x xs ys h e = rw e refl

pub weight-append : (xs ys : List ℕ) → has_weight (xs ++ ys) ≡ (has_weight xs || has_weight ys)
weight-append [] ys = refl
weight-append (x ∷ xs) ys = weight-or (x == 48) x xs ys (weight-append xs ys) refl

-- zeros after a number
zeros-zero : (k : ℕ) → digits_after 0 (padded k []) ≡ 0
zeros-zero zero = refl
zeros-zero (suc k) = zeros-zero k

zeros-more : (k x u : ℕ) → x ≤ u → digits_after x (padded k []) ≤ digits_after u (padded k [])
zeros-more zero x u h = h
zeros-more (suc k) x u h = zeros-more k (10 * x + (48 - 48)) (10 * u + (48 - 48)) (omega (arith, h))

zeros-grow : (k u : ℕ) → u ≤ digits_after u (padded k [])
zeros-grow zero u = omega arith
zeros-grow (suc k) u = (let more = zeros-grow k (10 * u + (48 - 48)) in omega (arith, more))

zeros-split : (j k : ℕ) → padded (j + k) [] ≡ padded j [] ++ padded k []
zeros-split zero k = ap (λ n. padded n []) (none-more k)
zeros-split (suc j) k = ap (λ n. padded n []) (one-more j k) ∙ ap (λ l. 48 ∷ l) (zeros-split j k)

zeros-many : digits_after 1 (padded 37 []) ≡ 10 ^ 37
zeros-many = refl

-- after as many zeros each number but 0 is greater than the most
zeros-most : (u k : ℕ) → 1 ≤ u → 2 ^ 120 ≤ digits_after u (padded (37 + k) [])
zeros-most u k h =
    let more = zeros-more 37 1 u h in
    let grown = zeros-grow k (digits_after u (padded 37 [])) in
    let split : digits_after u (padded (37 + k) []) ≡ digits_after (digits_after u (padded 37 [])) (padded k []) =
    ap (digits_after u) (zeros-split 37 k) ∙ digits_after-append u (padded 37 []) (padded k []) in
    omega (arith, more, grown, split, zeros-many)

zeros-same : (u j k : ℕ) → min (digits_after u (padded (37 + j) [])) (2 ^ 120) ≡ min (digits_after u (padded (37 + k) [])) (2 ^ 120)
zeros-same zero j k = ap (λ v. min v (2 ^ 120)) (zeros-zero (37 + j) ∙ sym (zeros-zero (37 + k)))
zeros-same (suc u) j k =
    let one = zeros-most (suc u) j (omega arith) in
    let other = zeros-most (suc u) k (omega arith) in
    omega (arith, one, other)

append-none : (xs : List ℕ) → xs ++ [] ≡ xs
append-none [] = refl
append-none (x ∷ xs) = ap (λ l. x ∷ l) (append-none xs)

padded-zeros : (fs : List ℕ) (k : ℕ) → padded (length fs + k) fs ≡ fs ++ padded k []
padded-zeros fs k = ap (padded (length fs + k)) (sym (append-none fs)) ∙ padded-whole fs [] k

far-split : (v : ℕ) (fs : List ℕ) (j n : ℕ) → n ≡ length fs + (37 + j)
    → min (digits_after v (padded n fs)) (2 ^ 120) ≡ min (digits_after (digits_after v fs) (padded (37 + j) [])) (2 ^ 120)
far-split v fs j n e =
    ap (λ m. min (digits_after v (padded m fs)) (2 ^ 120)) e
    ∙ (ap (λ l. min (digits_after v l) (2 ^ 120)) (padded-zeros fs (37 + j))
    ∙ ap (λ m. min m (2 ^ 120)) (digits_after-append v fs (padded (37 + j) [])))

pub far : (v : ℕ) (fs : List ℕ) (k : ℕ) → length fs + 37 ≤ k
    → min (digits_after v (padded k fs)) (2 ^ 120) ≡ min (digits_after v (padded (length fs + 37) fs)) (2 ^ 120)
far v fs k h =
    far-split v fs (k - (length fs + 37)) k (omega (arith, h))
    ∙ (zeros-same (digits_after v fs) (k - (length fs + 37)) 0 ∙ sym (far-split v fs 0 (length fs + 37) (omega arith)))

-- a number whose point is moved to the right
pub scaled-right : (right : ℕ) (whole fraction : List ℕ) → scaled right 0 whole fraction ≡ digits_after (digits_after 0 whole) (padded right fraction)
scaled-right right whole fraction =
    let same : length whole + right - 0 ≡ length whole + right = omega arith in
    ap (λ n. digits_after 0 (padded n (whole ++ fraction))) same
    ∙ (ap (digits_after 0) (padded-whole whole fraction right) ∙ digits_after-append 0 whole (padded right fraction))

pub more-right : (right : ℕ) (whole fraction : List ℕ) → has_more right 0 whole fraction ≡ has_weight (drop right fraction)
more-right right whole fraction =
    let same : length whole + right - 0 ≡ length whole + right = omega arith in
    ap (λ n. has_weight (drop n (whole ++ fraction))) same ∙ ap has_weight (drop-whole whole fraction right)

-- and to the left
pub scaled-left : (left : ℕ) (whole fraction : List ℕ) → scaled 0 left whole fraction ≡ digits_after 0 (take (length whole - left) whole)
scaled-left left whole fraction =
    let same : length whole + 0 - left ≡ length whole - left = omega arith in
    ap (λ n. digits_after 0 (padded n (whole ++ fraction))) same
    ∙ ap (digits_after 0) (padded-take (length whole - left) whole fraction (omega arith))

pub more-left : (left : ℕ) (whole fraction : List ℕ)
    → has_more 0 left whole fraction ≡ (has_weight (drop (length whole - left) whole) || has_weight fraction)
more-left left whole fraction =
    let same : length whole + 0 - left ≡ length whole - left = omega arith in
    ap (λ n. has_weight (drop n (whole ++ fraction))) same
    ∙ (ap has_weight (drop-within (length whole - left) whole fraction (omega arith)) ∙ weight-append (drop (length whole - left) whole) fraction)

pub one-at-most : (b : Bool) (v w : ℕ) → min v (2 ^ 120) ≡ min w (2 ^ 120) → min (with_one b v) (2 ^ 120) ≡ min (with_one b w) (2 ^ 120)
one-at-most true v w h = omega (arith, h)
one-at-most false v w h = h

pub rounded-with : (up more : Bool) (v right left : ℕ) (whole fraction : List ℕ) → v ≡ min (scaled right left whole fraction) (2 ^ 120)
    → has_more right left whole fraction ≡ more
    → min (with_one (up && more) v) (2 ^ 120) ≡ min (rounded up right left whole fraction) (2 ^ 120)
rounded-with up more v right left whole fraction e is =
    rw is (one-at-most (up && more) v (scaled right left whole fraction) (omega (arith, e)))

-- a point that is moved further than enough
pub rounded-far : (up : Bool) (k n : ℕ) (whole fraction : List ℕ) → n ≡ min (length fraction + 37) k
    → min (rounded up n 0 whole fraction) (2 ^ 120) ≡ min (rounded up k 0 whole fraction) (2 ^ 120)
rounded-far up k n whole fraction e = elim (cases_lt k (length fraction + 37)) [
  | inl less ↦ (let same : n ≡ k = omega (arith, e, less) in ap (λ m. min (rounded up m 0 whole fraction) (2 ^ 120)) same)
  | inr more ↦
      let same : n ≡ length fraction + 37 = omega (arith, e, more) in
      let none : (m : ℕ) → length fraction ≤ m → has_more m 0 whole fraction ≡ false =
      λ m h. more-right m whole fraction ∙ ap has_weight (drop-past m fraction h) in
      let values : min (scaled n 0 whole fraction) (2 ^ 120) ≡ min (scaled k 0 whole fraction) (2 ^ 120) =
      ap (λ v. min v (2 ^ 120)) (scaled-right n whole fraction)
      ∙ (ap (λ m. min (digits_after (digits_after 0 whole) (padded m fraction)) (2 ^ 120)) same
      ∙ (sym (far (digits_after 0 whole) fraction k more) ∙ ap (λ v. min v (2 ^ 120)) (sym (scaled-right k whole fraction)))) in
      let one : has_more n 0 whole fraction ≡ false = none n (omega (arith, same)) in
      let other : has_more k 0 whole fraction ≡ false = none k (omega (arith, more)) in
      sym (rounded-with up false (min (scaled n 0 whole fraction) (2 ^ 120)) n 0 whole fraction refl one)
      ∙ rounded-with up false (min (scaled n 0 whole fraction) (2 ^ 120)) k 0 whole fraction values other
]

-- a point that is moved both ways
pub rounded-kept : (up : Bool) (right left right' left' : ℕ) (whole fraction : List ℕ) → kept right left whole ≡ kept right' left' whole
    → rounded up right left whole fraction ≡ rounded up right' left' whole fraction
rounded-kept up right left right' left' whole fraction same =
    ap (λ n. with_one (up && has_weight (drop n (whole ++ fraction))) (digits_after 0 (padded n (whole ++ fraction)))) same

or-false : (b : Bool) → (b || false) ≡ b
or-false true = refl
or-false false = refl

-- what the code makes of such points
pub point-right : (up more : Bool) (right value result : ℕ) (whole fraction : List ℕ)
    → value ≡ min (digits_after (min (digits_after 0 whole) (2 ^ 120)) (padded right fraction)) (2 ^ 120)
    → more ≡ (up && (has_weight (drop right fraction) || false)) → result ≡ min (with_one more value) (2 ^ 120)
    → result ≡ min (rounded up right 0 whole fraction) (2 ^ 120)
point-right up more right value result whole fraction v m r =
    r ∙ (ap (λ b. min (with_one b value) (2 ^ 120)) (m ∙ ap (λ b. up && b) (or-false (has_weight (drop right fraction))))
    ∙ rounded-with up (has_weight (drop right fraction)) value right 0 whole fraction
    (v ∙ (sym (kept-at-most (2 ^ 120) (digits_after 0 whole) (padded right fraction))
    ∙ ap (λ n. min n (2 ^ 120)) (sym (scaled-right right whole fraction)))) (more-right right whole fraction))

pub point-left : (up more : Bool) (left kept value result : ℕ) (whole fraction : List ℕ) → kept ≡ length whole - left
    → value ≡ min (digits_after 0 (take kept whole)) (2 ^ 120)
    → more ≡ (up && (has_weight (drop kept whole) || has_weight fraction)) → result ≡ min (with_one more value) (2 ^ 120)
    → result ≡ min (rounded up 0 left whole fraction) (2 ^ 120)
point-left up more left kept value result whole fraction k v m r =
    r ∙ (ap (λ b. min (with_one b value) (2 ^ 120)) m
    ∙ rounded-with up (has_weight (drop kept whole) || has_weight fraction) value 0 left whole fraction
    (v ∙ (ap (λ n. min (digits_after 0 (take n whole)) (2 ^ 120)) k ∙ ap (λ n. min n (2 ^ 120)) (sym (scaled-left left whole fraction))))
    (more-left left whole fraction ∙ ap (λ n. has_weight (drop n whole) || has_weight fraction) (sym k)))
