-- The digits of a number among sixteen bytes.
use Rattle.std.proofs.Common.{◌≡◌, ◌<◌, ◌≤◌, ◌+◌, ◌-◌, ◌*◌, ◌%◌, ◌^◌, ◌++◌, ◌∷◌, [], ℕ, zero, suc, true, false, List, length, drop, take, get_or, map}
use Rattle.std.proofs.Common.{replicate, nat_le, leb, cond, w8, Fits, refl, ap, subst, ◌∙◌, arith}
use Rattle.std.specs.{List.list_all, Int.Digits.number_from_digits, Int.Digits.number_from_digits_after, Int.Digits.AllBelowBase}
use Rattle.std.proofs.lemmas.{Nat.and_mask, Nat.and_le_r, Bool.leb-false, Bool.leb-true, Bool.and_parts, List.drop-map, List.drop-take, List.drop-drop}
use Rattle.std.proofs.lemmas.{List.length-map, Simd.length-chunk, Simd.zip2_splat, Simd.zip2_splat_left, Simd.tops_compared, Simd.map-map, Simd.mask_l-mod}
use lib.Count.{count_trailing_zeros}
use lib.Bits.{bit_and}
use lib.Lanes.{zip2, mask_l, top, Each1, chunk}
use Rattle.irig_vcd.specs.{Words.words_from, Words.before_space, Digits.is_digit, Digits.number_from, Code.Lanes.shows_none}
use Rattle.irig_vcd.proofs.{LaneCounts.counted_fails, Runs.runs, Runs.more_front, DigitRuns.dark_digit, DigitRuns.more_digits}

abbrev pub less_48 : ℕ → ℕ
less_48 b = (b + 208) % 256

-- the mask of the bytes that are no digits
pub mask_is : (v : List ℕ) → length v ≡ 16
    → mask_l (map (top 7) (zip2 (λ a b. cond (leb a b) 255 0) (replicate 16 10) (zip2 (λ a b. (a + (256 - b)) % 256) v (replicate 16 48)))) % 2 ^ 64
    ≡ mask_l (map shows_none v)
mask_is v long =
    let less : zip2 (λ a b. (a + (256 - b)) % 256) v (replicate 16 48) ≡ map less_48 v = zip2_splat (λ a b. (a + (256 - b)) % 256) v 16 48 long in
    let many : length (map less_48 v) ≡ 16 = length-map v less_48 ∙ long in
    let tops : map (top 7) (zip2 (λ a b. cond (leb a b) 255 0) (replicate 16 10) (map less_48 v)) ≡ map shows_none v =
    tops_compared w8 leb (replicate 16 10) (map less_48 v) ∙ (zip2_splat_left leb 10 16 (map less_48 v) many ∙ map-map (leb 10) less_48 v) in
    ap (λ l. mask_l (map (top 7) (zip2 (λ a b. cond (leb a b) 255 0) (replicate 16 10) l)) % 2 ^ 64) less
    ∙ (ap (λ l. mask_l l % 2 ^ 64) tops ∙ mask_l-mod (map shows_none v) 64 (omega (arith, length-map v shows_none, long)))

-- a byte that shows a digit
pub shows : (b : ℕ) → b < 256 → shows_none b ≡ false → (48 ≤ b) × (b ≤ 57)
shows b h e = let less : (b + 208) % 256 < 10 = leb-false 10 ((b + 208) % 256) e in (omega (arith, less), omega (arith, less))

-- ---- lanes that stay

and_none : (b : ℕ) → bit_and b 0 ≡ 0
and_none b = omega (arith, and_le_r b 0)

all_stay : (bs : List ℕ) (m : ℕ) → length bs ≡ m → Each1 (Fits w8) bs → zip2 bit_and bs (replicate m 255) ≡ bs
all_stay [] zero long fits = refl
all_stay [] (suc m) long fits = refl
all_stay (b ∷ bs) zero long fits = absurd (omega arith)
all_stay (b ∷ bs) (suc m) long fits =
    let one : bit_and b 255 ≡ b = and_mask b 8 ∙ omega (arith, fits.0.fits) in
    (λ i. one i ∷ zip2 bit_and bs (replicate m 255)) ∙ ap (λ l. b ∷ l) (all_stay bs m (omega arith) fits.1)

stay : (bs : List ℕ) (k m : ℕ) → length bs ≡ k + m → Each1 (Fits w8) bs → zip2 bit_and bs (replicate k 0 ++ replicate m 255) ≡ replicate k 0 ++ drop k bs
stay bs zero m long fits = all_stay bs m (omega arith) fits
stay [] (suc k) m long fits = absurd (omega arith)
stay (b ∷ bs) (suc k) m long fits =
    (λ i. and_none b i ∷ zip2 bit_and bs (replicate k 0 ++ replicate m 255)) ∙ ap (λ l. 0 ∷ l) (stay bs k m (omega arith) fits.1)

abbrev pub keep : List ℕ
keep = replicate 16 0 ++ replicate 16 255

-- a window of sixteen lanes
window : (c : ℕ) → c ≤ 16 → take 16 (take (32 - c) (drop c keep)) ≡ replicate (16 - c) 0 ++ replicate c 255
window zero h = refl
window (suc zero) h = refl
window (suc (suc zero)) h = refl
window (suc (suc (suc zero))) h = refl
window (suc (suc (suc (suc zero)))) h = refl
window (suc (suc (suc (suc (suc zero))))) h = refl
window (suc (suc (suc (suc (suc (suc zero)))))) h = refl
window (suc (suc (suc (suc (suc (suc (suc zero))))))) h = refl
window (suc (suc (suc (suc (suc (suc (suc (suc zero)))))))) h = refl
window (suc (suc (suc (suc (suc (suc (suc (suc (suc zero))))))))) h = refl
window (suc (suc (suc (suc (suc (suc (suc (suc (suc (suc zero)))))))))) h = refl
window (suc (suc (suc (suc (suc (suc (suc (suc (suc (suc (suc zero))))))))))) h = refl
window (suc (suc (suc (suc (suc (suc (suc (suc (suc (suc (suc (suc zero)))))))))))) h = refl
window (suc (suc (suc (suc (suc (suc (suc (suc (suc (suc (suc (suc (suc zero))))))))))))) h = refl
window (suc (suc (suc (suc (suc (suc (suc (suc (suc (suc (suc (suc (suc (suc zero)))))))))))))) h = refl
window (suc (suc (suc (suc (suc (suc (suc (suc (suc (suc (suc (suc (suc (suc (suc zero))))))))))))))) h = refl
window (suc (suc (suc (suc (suc (suc (suc (suc (suc (suc (suc (suc (suc (suc (suc (suc zero)))))))))))))))) h = refl
window (suc (suc (suc (suc (suc (suc (suc (suc (suc (suc (suc (suc (suc (suc (suc (suc (suc c))))))))))))))))) h = absurd (omega arith)

pub last_stay : (bs : List ℕ) (c : ℕ) → c ≤ 16 → length bs ≡ 16 → Each1 (Fits w8) bs → zip2 bit_and bs (take 16 (take (32 - c) (drop c keep)))
    ≡ replicate (16 - c) 0 ++ drop (16 - c) bs
last_stay bs c h long fits = ap (zip2 bit_and bs) (window c h) ∙ stay bs (16 - c) c (omega arith) fits

-- ---- the number

zeros_below : (k : ℕ) (ds : List ℕ) → AllBelowBase 10 ds → AllBelowBase 10 (replicate k 0 ++ ds)
zeros_below zero ds h = h
zeros_below (suc k) ds h = (omega arith, zeros_below k ds h)

digit_parts : (b : ℕ) (bs : List ℕ) → list_all is_digit (b ∷ bs) ≡ true → (48 ≤ b) × (b ≤ 57) × (list_all is_digit bs ≡ true)
digit_parts b bs h =
    let p = and_parts (is_digit b) (list_all is_digit bs) h in
    let q = and_parts (nat_le 48 b) (nat_le b 57) p.0 in
    (leb-true 48 b q.0, leb-true b 57 q.1, p.1)

digits_below : (bs : List ℕ) → list_all is_digit bs ≡ true → AllBelowBase 10 (map less_48 bs)
digits_below [] h = tt
digits_below (b ∷ bs) h = let p = digit_parts b bs h in (omega (arith, p.0, p.1), digits_below bs p.2)

zeros_first : (k : ℕ) (ds : List ℕ) → number_from_digits_after 10 0 (replicate k 0 ++ ds) ≡ number_from_digits_after 10 0 ds
zeros_first zero ds = refl
zeros_first (suc k) ds = zeros_first k ds

digits_spell : (bs : List ℕ) (n : ℕ) → list_all is_digit bs ≡ true → number_from_digits_after 10 n (map less_48 bs) ≡ number_from n bs
digits_spell [] n h = refl
digits_spell (b ∷ bs) n h =
    let p = digit_parts b bs h in
    let one : n * 10 + (b + 208) % 256 ≡ 10 * n + (b - 48) = omega (arith, p.0, p.1) in
    ap (λ k. number_from_digits_after 10 k (map less_48 bs)) one ∙ digits_spell bs (10 * n + (b - 48)) p.2

-- sixteen bytes up to a place, whose last are digits
abbrev pub kept : List ℕ → ℕ → ℕ → List ℕ
kept s from c = replicate (16 - c) 0 ++ drop (16 - c) (map less_48 (take 16 (drop (from + c - 16) s)))

kept_is : (s : List ℕ) (from c : ℕ) → 16 ≤ from → c ≤ 16 → kept s from c ≡ replicate (16 - c) 0 ++ map less_48 (take c (drop from s))
kept_is s from c back h =
    let sixteen : 16 ≡ 16 - c + c = omega arith in
    let there : from + c - 16 + (16 - c) ≡ from = omega arith in
    let cut : drop (16 - c) (take 16 (drop (from + c - 16) s)) ≡ take c (drop from s) =
    ap (λ n. drop (16 - c) (take n (drop (from + c - 16) s))) sixteen ∙ (drop-take (16 - c) c (drop (from + c - 16) s)
    ∙ ap (take c) (drop-drop (16 - c) (from + c - 16) s ∙ ap (λ n. drop n s) there)) in
    ap (λ l. replicate (16 - c) 0 ++ l) (drop-map less_48 (16 - c) (take 16 (drop (from + c - 16) s)) ∙ ap (map less_48) cut)

pub kept_below : (s : List ℕ) (from c : ℕ) → 16 ≤ from → c ≤ 16 → list_all is_digit (take c (drop from s)) ≡ true → AllBelowBase 10 (kept s from c)
kept_below s from c back h digits = rw (kept_is s from c back h)
    (zeros_below (16 - c) (map less_48 (take c (drop from s))) (digits_below (take c (drop from s)) digits))

pub kept_spell : (s : List ℕ) (from c : ℕ) → 16 ≤ from → c ≤ 16 → list_all is_digit (take c (drop from s)) ≡ true
    → number_from_digits 10 (kept s from c) ≡ number_from 0 (take c (drop from s))
kept_spell s from c back h digits =
    ap (number_from_digits 10) (kept_is s from c back h) ∙ (zeros_first (16 - c) (map less_48 (take c (drop from s)))
    ∙ digits_spell (take c (drop from s)) 0 digits)

-- ---- the run

abbrev pub DigitRun : List ℕ → ℕ → ℕ → Type 0
DigitRun s from i =
    (words_from i true (drop i s) ≡ words_from from true (drop from s))
    × (before_space (drop from s) ≡ take (i - from) (drop from s) ++ before_space (drop i s))
    × (list_all is_digit (take (i - from) (drop from s)) ≡ true)

pub digit_run : (c : ℕ) (s : List ℕ) (from i : ℕ) → i ≡ from + c → i ≤ length s → ((k : ℕ) → from ≤ k → k < i → (48 ≤ get_or s k 0) × (get_or s k 0 ≤ 57))
    → DigitRun s from i
digit_run zero s from i is le each =
    let same : from ≡ i = omega arith in
    let none : from - from ≡ 0 = omega arith in
    subst (λ (n : ℕ). DigitRun s from n) same (refl, rw none refl, rw none refl)
digit_run (suc c) s from i is le each =
    let one : from + c + 1 ≡ i = omega arith in
    let lt : from + c < length s = omega arith in
    let after : from ≤ from + c = omega arith in
    let before = digit_run c s from (from + c) refl (omega arith) (λ k a b. each k a (omega arith)) in
    let shown = each (from + c) after (omega arith) in
    let dark = dark_digit (get_or s (from + c) 0) shown.0 shown.1 in
    subst (λ (n : ℕ). DigitRun s from n) one
    (runs s (from + c) lt dark ∙ before.0, more_front s from (from + c) after lt dark before.1, more_digits s from (from + c) after lt shown.0 shown.1 before.2)

-- ---- the count

pub counted_digits : (s : List ℕ) (from m : ℕ) → from + 16 ≤ length s → m ≡ mask_l (map shows_none (chunk from 16 s)) → 0 < m
    → ((k : ℕ) → Fits w8 (get_or s k 0))
    → (k : ℕ) → from ≤ k → k < from + count_trailing_zeros 64 m → (48 ≤ get_or s k 0) × (get_or s k 0 ≤ 57)
counted_digits s from m room is some fits k a b = shows (get_or s k 0) (let f = fits k in omega (arith, f.fits))
    (counted_fails shows_none s from m room is some k a b)

pub kept_lanes : (s : List ℕ) (from c : ℕ) → 16 ≤ from + c → from + c ≤ length s
    → replicate (16 - c) 0 ++ drop (16 - c) (zip2 (λ a b. (a + (256 - b)) % 256) (chunk (from + c - 16) 16 s) (replicate 16 48)) ≡ kept s from c
kept_lanes s from c back room = ap (λ l. replicate (16 - c) 0 ++ drop (16 - c) l)
    (zip2_splat (λ a b. (a + (256 - b)) % 256) (chunk (from + c - 16) 16 s) 16 48 (length-chunk (from + c - 16) 16 s (omega arith)))

-- the digits of a run, counted from its start
pub run_digits : (s : List ℕ) (from c : ℕ) → DigitRun s from (from + c) → list_all is_digit (take c (drop from s)) ≡ true
run_digits s from c run = let same : c ≡ from + c - from = omega arith in ap (λ n. list_all is_digit (take n (drop from s))) same ∙ run.2
