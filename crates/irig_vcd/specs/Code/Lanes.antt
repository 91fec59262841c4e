-- Digits in lanes: neighbouring ones, joined.
use Rattle.std.specs.Prelude.{◌%◌, ◌+◌, ◌*◌, ℕ, Bool, List, [], ◌∷◌, nat_le}

-- two digits a number, the first one counting most
abbrev pub pairs_joined : ℕ → List ℕ → List ℕ
pairs_joined base [] = []
pairs_joined base (a ∷ []) = []
pairs_joined base (a ∷ b ∷ digits) = (base * a + b) ∷ pairs_joined base digits

-- a byte shows no digit, as it is taken from that of 0
abbrev pub shows_none : ℕ → Bool
shows_none b = nat_le 10 ((b + 208) % 256)

-- a byte is a space or below it
abbrev pub is_low : ℕ → Bool
is_low b = nat_le b 32
