-- The bits of an explanation: what each claimed element costs as a zero, and as a one, that says
-- something of the time. This project's own.
use Rattle.std.specs.Prelude.{ℕ, ◌-◌, ◌/◌, ◌&&◌, ◌++◌, List, [], ◌∷◌, length, min, if◌then◌else◌}
use Rattle.irig_codes.specs.Format.{FormatView}
use Rattle.irig_candidates.specs.{Bits.is_bit, declared.bit.Bit.Bit}
use Rattle.irig_explaining.specs.declared.{claim.Claim.Claim, prices.Prices.Prices}
use Rattle.irig_telling.specs.declared.{counted.Counted.Counted, look.Look.Look}
use Rattle.irig_telling.specs.{Counting.begun, Counting.next, Looking.has_look, Looking.look}
use Rattle.irig_telling.specs.{Tallies.most}

-- a class costs what the wire looks less like it than like the other one, up to a bound
abbrev pub bit_of : Prices → ℕ → Claim → Counted → Look → Bit
bit_of p most c at l = record {
  stretch = at.stretch;
  rise = c.rise;
  frame = at.element / length p.roles.now;
  element = c.element;
  zero = min most (l.zero - l.one);
  one = min most (l.one - l.zero);
}

-- the bit of a claim with a look, if its element says something of the time
abbrev pub own_bit : FormatView → Prices → ℕ → Claim → Counted → Claim → List Bit
own_bit f p most c at d =
    if has_look c && is_bit f c.element then bit_of p most c at (look p c d) ∷ [] else []

-- those of the claims from one on; what comes after the last one is not known, so it has none
abbrev pub bits_from : FormatView → Prices → ℕ → Claim → Counted → List Claim → List Bit
bits_from f p most c at [] = []
bits_from f p most c at (d ∷ ds) =
    own_bit f p most c at d ++ bits_from f p most d (next p c at d) ds

-- those of all claims
abbrev pub bits_of : FormatView → Prices → List Claim → List Bit
bits_of f p [] = []
bits_of f p (c ∷ cs) = bits_from f p (most p (c ∷ cs)) c (begun 0 c) cs
