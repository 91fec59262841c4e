-- The unit of a dump, read word by word into a short text.
use Rattle.std.specs.Prelude.{◌≡◌, ◌<◌, ◌≤◌, ℕ, true, false, List, [], length, take, Result, Ok}
use Rattle.irig_vcd.specs.{Answer.◌>>=◌, Code.Section.section_words, Scales.scale_of, Words.Word}
use Rattle.irig_vcd.specs.{declared.fault.VcdFault.VcdFault, declared.timescale.Joined.Joined}

-- a text holds all of what was joined, or says that it is too long
pub record HoldsText (all : List ℕ) (text : Joined) : Type 0 where
  pub within : text.len ≤ 5
  pub room : length text.bytes ≡ 5
  pub same : text.fits ≡ true → take text.len text.bytes ≡ all
  pub long : text.fits ≡ false → 5 < length all

-- the unit of a section, and the words after its end
abbrev pub scale_read : List Word → Result (ℕ × List Word) VcdFault
scale_read words = section_words [] words >>= λ x. scale_of x.0 >>= λ s. Ok (s, x.1)
