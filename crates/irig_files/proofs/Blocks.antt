-- A text that is written block after block to what shows its bytes.
use Rattle.std.proofs.Common.{◌≡◌, ◌+◌, ◌++◌, ℕ, List, length, arith, length-append}

-- the bytes of one block more are counted
pub one_block_more : (so_far part : List ℕ) (old new : ℕ) → old ≡ length so_far → new ≡ old + length part → new ≡ length (so_far ++ part)
one_block_more so_far part old new counted more = omega (arith, counted, more, length-append so_far part)
