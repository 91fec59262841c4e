-- The bytes of a word among sixteen.
use Rattle.std.proofs.Common.{◌≡◌, ◌<◌, ◌≤◌, ◌+◌, ℕ, zero, suc, true, false, List, length, drop, get_or, map, replicate, leb, cond, w8, ap, ◌∙◌, arith, ◌^◌}
use Rattle.std.proofs.Common.{◌%◌}
use Rattle.std.proofs.lemmas.{Bool.leb-false, Simd.bitmask_splat, Simd.none_from_empty_mask}
use lib.Lanes.{zip2, mask_l, top, chunk}
use Rattle.irig_vcd.specs.{Code.Lanes.is_low, Words.words_from}
use Rattle.irig_vcd.proofs.{DigitRuns.dark_above, Runs.runs}

-- the mask of the bytes up to a space
pub low_mask : (v : List ℕ) → length v ≡ 16 → mask_l (map (top 7) (zip2 (λ a b. cond (leb a b) 255 0) v (replicate 16 32))) % 2 ^ 64 ≡ mask_l (map is_low v)
low_mask v long = bitmask_splat w8 leb v 16 32 long (omega arith)

pub all_dark : (s : List ℕ) (from m : ℕ) → from + 16 ≤ length s → m ≡ mask_l (map is_low (chunk from 16 s)) → m ≡ 0 → (k : ℕ) → from ≤ k → k < from + 16
    → is_low (get_or s k 0) ≡ false
all_dark s from m room is none = none_from_empty_mask is_low s from 16 0 room (omega (arith, is, none))

-- a run of such bytes does not end a word
pub dark_run : (c : ℕ) (s : List ℕ) (from : ℕ) → from + c ≤ length s → ((k : ℕ) → from ≤ k → k < from + c → is_low (get_or s k 0) ≡ false)
    → words_from (from + c) true (drop (from + c) s) ≡ words_from from true (drop from s)
dark_run zero s from le each = ap (λ n. words_from n true (drop n s)) (let k : from + zero ≡ from = omega arith in k)
dark_run (suc c) s from le each =
    let one : from + suc c ≡ from + c + 1 = omega arith in
    let dark = dark_above (get_or s (from + c) 0) (leb-false (get_or s (from + c) 0) 32 (each (from + c) (omega arith) (omega arith))) in
    ap (λ n. words_from n true (drop n s)) one ∙ (runs s (from + c) (omega arith) dark ∙ dark_run c s from (omega arith) (λ k a b. each k a (omega arith)))
