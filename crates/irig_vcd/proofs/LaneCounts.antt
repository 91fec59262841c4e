-- Bytes among sixteen, counted up to the first of a mask.
use Rattle.std.proofs.Common.{◌≡◌, ◌<◌, ◌≤◌, ◌+◌, ℕ, Bool, false, not, List, length, get_or, map, ap, ◌∙◌, arith}
use Rattle.std.proofs.lemmas.Simd.{trailing_mask_l, length-chunk, run_in_chunk_le, run_in_chunk_fails}
use Rattle.std.specs.List.{prefix_len}
use lib.Count.{count_trailing_zeros}
use lib.Lanes.{mask_l, chunk}

-- the zeros that a mask ends with are the bytes before the first of it
counted : (p : ℕ → Bool) (s : List ℕ) (from m : ℕ) → from + 16 ≤ length s → m ≡ mask_l (map p (chunk from 16 s)) → 0 < m
    → count_trailing_zeros 64 m ≡ prefix_len (λ x. not (p x)) (chunk from 16 s)
counted p s from m room is some = ap (count_trailing_zeros 64) is
    ∙ trailing_mask_l p 64 (chunk from 16 s) (omega (arith, length-chunk from 16 s room)) (omega (arith, is, some))

-- no more than sixteen
pub counted_few : (p : ℕ → Bool) (s : List ℕ) (from m : ℕ) → from + 16 ≤ length s → m ≡ mask_l (map p (chunk from 16 s)) → 0 < m
    → count_trailing_zeros 64 m ≤ 16
counted_few p s from m room is some = run_in_chunk_le p s from 16 (count_trailing_zeros 64 m) 0 room (counted p s from m room is some)

-- none of them is of the mask
pub counted_fails : (p : ℕ → Bool) (s : List ℕ) (from m : ℕ) → from + 16 ≤ length s → m ≡ mask_l (map p (chunk from 16 s)) → 0 < m
    → (k : ℕ) → from ≤ k → k < from + count_trailing_zeros 64 m → p (get_or s k 0) ≡ false
counted_fails p s from m room is some = run_in_chunk_fails p s from 16 (count_trailing_zeros 64 m) 0 room (counted p s from m room is some)
