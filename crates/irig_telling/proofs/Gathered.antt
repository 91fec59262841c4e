-- Bits, one claim after another.
use Rattle.std.proofs.Common.{◌≡◌, ◌++◌, ◌∷◌, ◌∙◌, ℕ, List, append_assoc, ap}
use Rattle.irig_codes.specs.Format.{FormatView}
use Rattle.irig_candidates.specs.declared.bit.Bit.{Bit}
use Rattle.irig_explaining.specs.declared.{claim.Claim.Claim, prices.Prices.Prices}
use Rattle.irig_telling.specs.{Bits.bits_from, Bits.own_bit, Counting.next}
use Rattle.irig_telling.specs.declared.counted.Counted.{Counted}

-- one claim more
pub bit_more : (f : FormatView) (p : Prices) (most : ℕ) (c d : Claim) (at new : Counted) (ds : List Claim) (so_far items all : List Bit)
    → items ≡ so_far ++ own_bit f p most c at d → new ≡ next p c at d → so_far ++ bits_from f p most c at (d ∷ ds) ≡ all
    → items ++ bits_from f p most d new ds ≡ all
bit_more f p most c d at new ds so_far items all pushed same whole =
    ap (λ (xs : List Bit). xs ++ bits_from f p most d new ds) pushed
    ∙ (append_assoc so_far (own_bit f p most c at d) (bits_from f p most d new ds)
    ∙ (ap (λ (n : Counted). so_far ++ (own_bit f p most c at d ++ bits_from f p most d n ds)) same ∙ whole))
