use Rattle.std.proofs.Common.{◌∷◌, ◌+◌, [], ℕ, List, codes, length, refl, ap, sym, arith}
use Rattle.std.proofs.lemmas.Fmt.{decimal_digit}
use Rattle.irig_recording.proofs.PulseText.{one_in_front}
use Rattle.irig_recording.proofs.kept_pulse.KeptPulse.new.Goals as goal

pub returns : goal.returns
returns c = record {
  rise = 48 ∷ 48 ∷ 48 ∷ 48 ∷ [];
  fall = 48 ∷ 48 ∷ 48 ∷ 48 ∷ [];
  pad = codes "                                    ";
  is = sym (one_in_front (48 ∷ 48 ∷ 48 ∷ 48 ∷ []) (48 ∷ 48 ∷ 48 ∷ 48 ∷ []) (codes "                                    "));
  of_rise = refl;
  of_fall = refl;
  fits = ap (λ (d : List ℕ). length (35 ∷ d) + 8) (decimal_digit 1 (omega arith));
  short = omega arith;
  whole = refl;
  some = omega arith;
}
