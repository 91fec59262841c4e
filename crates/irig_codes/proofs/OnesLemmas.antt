-- The elements that are One as the bits of a number.
use Rattle.std.proofs.Common.{◌≡◌, ℕ, zero, suc, ◌+◌, ◌*◌, ◌/◌, ◌%◌, ◌^◌, ◌<◌, Bool, true, false, cond, List, [], ◌∷◌, get_or, length, refl, sym, ap, ap₂, ◌∙◌}
use Rattle.std.proofs.Common.{arith, lit<}
use Rattle.std.specs.Int.{bit_at}
use Rattle.std.proofs.{Math.Arith.mod-mul, Math.Nat.mod-one, Math.Nat.mul-zero, Math.Nat.one-mul, Math.Nat.div-div-eq-div-mul, Math.Nat.pow-suc}
use Rattle.std.proofs.lemmas.{Nat.pow-add, Nat.pow_pos, Nat.Bits.bit_at-suc, Nat.Bits.bit_at-zero}
use Rattle.irig_codes.specs.Format.{FormatView, has_control, has_sbs, has_year, carries_sbs}
use Rattle.irig_codes.specs.Layout.{decimal, sbs, control, table, runs, sbs_runs, control_rows, control_starts}
use Rattle.irig_codes.specs.OnesDigits.{digit_in, whole_in, sbs_in, control_number, control_in, digits_in}
use Rattle.irig_codes.specs.declared.format.Kind.TheVariants.{A, B, E, G}
use Rattle.irig_codes.specs.declared.note.Name.TheVariants.{Hundredths, Seconds, Year}
use Rattle.irig_codes.specs.{Runs.Row, Runs.Run, Runs.doubling, Runs.rows, Ones.ones_of, Ones.bits_in, Reading.counts, Reading.is_one, Reading.sum_of}
use Rattle.irig_codes.specs.{Slots.slots_at, Digits.digits_read, Digits.value_at, declared.format.Kind.Kind, declared.width.Element.Element}
use Rattle.irig_codes.proofs.RowSums.{sum-append, sum-digit, digits-are, value-sbs, value-control}
use Rattle.irig_codes.proofs.{SlotRoundTrip.same15, Tables.scaled, Tables.number_rows, Tables.of_unit}

-- bit k is element k
pub bit-ones : (es : List Element) (k : ℕ) → bit_at (ones_of es) k ≡ cond (is_one es k) 1 0
bit-ones [] k = bit_at-zero k
bit-ones (e ∷ es) zero = lowest (counts e) (ones_of es) where
  lowest : (b : Bool) (n : ℕ) → bit_at (cond b 1 0 + 2 * n) 0 ≡ cond b 1 0
  lowest true n = omega arith
  lowest false n = omega arith
bit-ones (e ∷ es) (suc k) =
    bit_at-suc (ones_of (e ∷ es)) k ∙ ap (λ n. bit_at n k) (half (counts e) (ones_of es)) ∙ bit-ones es k where
      half : (b : Bool) (n : ℕ) → (cond b 1 0 + 2 * n) / 2 ≡ n
      half true n = omega arith
      half false n = omega arith

weighted : (b : Bool) (w x : ℕ) → x ≡ cond b 1 0 → cond b w 0 ≡ w * x
weighted true w x h = rw h (omega arith)
weighted false w x h = rw h (omega arith)

regroup : (w b x : ℕ) → w * b + 2 * w * x ≡ w * (x * 2 + b)
regroup w b x = grind arith

-- THE LEMMA: elements in a row with doubling weights are the bits there
pub sum-doubling : (es : List Element) (a w n : ℕ) → sum_of es (doubling a w n) ≡ w * bits_in (ones_of es) a n
sum-doubling es a w zero = sym (ap (λ r. w * r) (mod-one (ones_of es / 2 ^ a)) ∙ mul-zero w)
sum-doubling es a w (suc n) =
    let v = ones_of es in
    let m = v / 2 ^ a in
    let twice : 2 ^ (a + 1) ≡ 2 ^ a * 2 = pow-add 2 a 1 in
    let half : v / 2 ^ (a + 1) ≡ m / 2 = ap (λ b. v / b) twice ∙ sym (div-div-eq-div-mul v (2 ^ a) 2) in
    let rest : sum_of es (doubling (a + 1) (2 * w) n) ≡ 2 * w * (m / 2 % 2 ^ n) = sum-doubling es (a + 1) (2 * w) n ∙ ap (λ q. 2 * w * (q % 2 ^ n)) half in
    let low : m % 2 ^ suc n ≡ m / 2 % 2 ^ n * 2 + m % 2 = ap (λ b. m % b) (pow-suc 2 n) ∙ mod-mul m (pow_pos n) (lit< tt) in
    let here : cond (is_one es a) w 0 ≡ w * (m % 2) = weighted (is_one es a) w (m % 2) (bit-ones es a) in
    ap (λ x. x + sum_of es (doubling (a + 1) (2 * w) n)) here ∙ ap (λ r. w * (m % 2) + r) rest ∙ regroup w (m % 2) (m / 2 % 2 ^ n) ∙ ap (λ r. w * r) (sym low)

nine-more : (w x y b r : ℕ) → x ≡ w * b → y ≡ 512 * w * r → x + y ≡ w * (b + 512 * r)
nine-more w x y b r p q = grind (arith, p, q)

pub sum-control_rows : (es : List Element) (starts : List ℕ) (w : ℕ) → sum_of es (control_rows w starts) ≡ w * control_number (ones_of es) starts
sum-control_rows es [] w = sym (mul-zero w)
sum-control_rows es (e ∷ starts) w =
    sum-append es (doubling e w 9) (control_rows (512 * w) starts)
    ∙ nine-more w _ _ (bits_in (ones_of es) e 9) (control_number (ones_of es) starts) (sum-doubling es e w 9) (sum-control_rows es starts (512 * w))

-- the numbers one by one
digit-is : (f : FormatView) (es : List Element) (u n v : ℕ) (rs : List Row) → length es ≡ 100 → n < 15 → ((x y : ℕ) → u * x ≡ u * y → x ≡ y) →
    rs ≡ scaled u (number_rows n 0 (slots_at f)) → sum_of es rs ≡ u * v → get_or (digits_read f es) n 0 ≡ v
digit-is f es u n v rs h b same q s = same _ _ (sym (sum-digit f es u n h b) ∙ sym (ap (sum_of es) q) ∙ s)

by-1 : (x y : ℕ) → 1 * x ≡ 1 * y → x ≡ y
by-1 x y h = omega (arith, h)

by-10 : (x y : ℕ) → 10 * x ≡ 10 * y → x ≡ y
by-10 x y h = omega (arith, h)

by-100 : (x y : ℕ) → 100 * x ≡ 100 * y → x ≡ y
by-100 x y h = omega (arith, h)

hundredths-units : (k : Kind) (c s y : Bool) (es : List Element) → sum_of es (of_unit 1 (table k c s y (decimal Hundredths)))
    ≡ 1 * digit_in (ones_of es) 1 (runs k y Hundredths)
hundredths-units A c s y es = refl
hundredths-units B c s y es = refl
hundredths-units E c s y es = refl
hundredths-units G c s y es = sum-doubling es 50 1 4

hundredths-tens : (k : Kind) (c s y : Bool) (es : List Element) → sum_of es (of_unit 10 (table k c s y (decimal Hundredths)))
    ≡ 10 * digit_in (ones_of es) 10 (runs k y Hundredths)
hundredths-tens A c s y es = sum-doubling es 45 10 4
hundredths-tens B c s y es = refl
hundredths-tens E c s y es = refl
hundredths-tens G c s y es = sum-doubling es 45 10 4

seconds-units : (k : Kind) (c s y : Bool) (es : List Element) → sum_of es (of_unit 1 (table k c s y (decimal Seconds)))
    ≡ 1 * digit_in (ones_of es) 1 (runs k y Seconds)
seconds-units A c s y es = sum-doubling es 1 1 4
seconds-units B c s y es = sum-doubling es 1 1 4
seconds-units E c s y es = refl
seconds-units G c s y es = sum-doubling es 1 1 4

seconds-tens : (k : Kind) (c s y : Bool) (es : List Element) → sum_of es (of_unit 10 (table k c s y (decimal Seconds)))
    ≡ 10 * digit_in (ones_of es) 10 (runs k y Seconds)
seconds-tens A c s y es = sum-doubling es 6 10 3
seconds-tens B c s y es = sum-doubling es 6 10 3
seconds-tens E c s y es = sum-doubling es 6 10 3
seconds-tens G c s y es = sum-doubling es 6 10 3

year-units : (k : Kind) (c s y : Bool) (es : List Element) → sum_of es (of_unit 1 (table k c s y (decimal Year))) ≡ 1 * digit_in (ones_of es) 1 (runs k y Year)
year-units k c s false es = refl
year-units A c s true es = sum-doubling es 50 1 4
year-units B c s true es = sum-doubling es 50 1 4
year-units E c s true es = sum-doubling es 50 1 4
year-units G c s true es = sum-doubling es 60 1 4

year-tens : (k : Kind) (c s y : Bool) (es : List Element) → sum_of es (of_unit 10 (table k c s y (decimal Year)))
    ≡ 10 * digit_in (ones_of es) 10 (runs k y Year)
year-tens k c s false es = refl
year-tens A c s true es = sum-doubling es 55 10 4
year-tens B c s true es = sum-doubling es 55 10 4
year-tens E c s true es = sum-doubling es 55 10 4
year-tens G c s true es = sum-doubling es 65 10 4

-- the sum of the rows of runs is the whole number in them
rows-whole : (es : List Element) (rs : List Run) → sum_of es (rows rs) ≡ whole_in (ones_of es) rs
rows-whole es [] = refl
rows-whole es (r ∷ rs) =
    sum-append es (doubling r.first r.weight r.count) (rows rs)
    ∙ ap₂ (λ x y. x + y) (sum-doubling es r.first r.weight r.count) (rows-whole es rs)

-- whether the straight binary seconds are there
abbrev pub carried : Kind → Bool → Bool
carried A s = s
carried B s = s
carried E s = false
carried G s = false

sbs-flag : (k : Kind) (c s y : Bool) (es : List Element) → sum_of es (table k c s y sbs) ≡ sbs_in (carried k s) (ones_of es)
sbs-flag A c true y es = rows-whole es sbs_runs
sbs-flag A c false y es = refl
sbs-flag B c true y es = rows-whole es sbs_runs
sbs-flag B c false y es = refl
sbs-flag E c true y es = refl
sbs-flag E c false y es = refl
sbs-flag G c true y es = refl
sbs-flag G c false y es = refl

pub carried-sbs : (k : Kind) (n : ℕ) → carried k (has_sbs n) ≡ carries_sbs k n
carried-sbs A n = refl
carried-sbs B n = refl
carried-sbs E n = refl
carried-sbs G n = refl

control-flag : (k : Kind) (c s y : Bool) (es : List Element) → sum_of es (table k c s y control) ≡ control_in k c y (ones_of es)
control-flag k true s y es = sum-control_rows es (control_starts k y) 1 ∙ one-mul _
control-flag k false s y es = refl

-- the numbers of a frame are those of its elements that are One
pub digits-gathered : (f : FormatView) (es : List Element) → length es ≡ 100 → digits_read f es ≡ digits_in f (ones_of es)
digits-gathered f es h =
    let k = f.kind in
    let c = has_control f.expression in
    let s = has_sbs f.expression in
    let y = has_year f.expression in
    same15 (λ d. value_at d (slots_at f) es) _ _ _ _ _ _ _ _ _ _ _ _ _ _ _
    (digit-is f es 1 0 _ _ h (lit< tt) by-1 (digits-are f 0) (hundredths-units k c s y es))
    (digit-is f es 10 1 _ _ h (lit< tt) by-10 (digits-are f 1) (hundredths-tens k c s y es))
    (digit-is f es 1 2 _ _ h (lit< tt) by-1 (digits-are f 3) (seconds-units k c s y es))
    (digit-is f es 10 3 _ _ h (lit< tt) by-10 (digits-are f 4) (seconds-tens k c s y es))
    (digit-is f es 1 4 _ _ h (lit< tt) by-1 (digits-are f 6) (sum-doubling es 10 1 4))
    (digit-is f es 10 5 _ _ h (lit< tt) by-10 (digits-are f 7) (sum-doubling es 15 10 3))
    (digit-is f es 1 6 _ _ h (lit< tt) by-1 (digits-are f 9) (sum-doubling es 20 1 4))
    (digit-is f es 10 7 _ _ h (lit< tt) by-10 (digits-are f 10) (sum-doubling es 25 10 2))
    (digit-is f es 1 8 _ _ h (lit< tt) by-1 (digits-are f 12) (sum-doubling es 30 1 4))
    (digit-is f es 10 9 _ _ h (lit< tt) by-10 (digits-are f 13) (sum-doubling es 35 10 4))
    (digit-is f es 100 10 _ _ h (lit< tt) by-100 (digits-are f 14) (sum-doubling es 40 100 2))
    (digit-is f es 1 11 _ _ h (lit< tt) by-1 (digits-are f 15) (year-units k c s y es))
    (digit-is f es 10 12 _ _ h (lit< tt) by-10 (digits-are f 16) (year-tens k c s y es))
    (sym (value-sbs f es h) ∙ sbs-flag k c s y es ∙ ap (λ b. sbs_in b (ones_of es)) (carried-sbs k f.expression))
    (sym (value-control f es h) ∙ control-flag k c s y es)
