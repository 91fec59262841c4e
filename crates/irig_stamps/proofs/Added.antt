-- Texts that are added one after the other.
use Rattle.std.proofs.Common.{◌≡◌, ◌++◌, ◌∙◌, ℕ, List, Result, Ok, Err, append_assoc}
use Rattle.std.specs.Prelude.{OnOk, if◌then◌else◌, is_ok}

-- what is added, in other words
pub added : {E : Type 0} (r : Result (Unit {0}) E) (a b old c : List ℕ) → a ≡ (if is_ok r then b else old) → b ≡ c → OnOk r (a ≡ c)
added (Ok done) a b old c h e = h ∙ e
added (Err fault) a b old c h e = tt

-- three texts
pub three : (old one two last : List ℕ) → ((old ++ one) ++ two) ++ last ≡ old ++ (one ++ (two ++ last))
three old one two last = append_assoc (old ++ one) two last ∙ append_assoc old one (two ++ last)
