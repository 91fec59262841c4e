-- Words of bytes above the dollar, as all words of a saved journal are.
use Rattle.std.proofs.Common.{◌≡◌, ◌<◌, ◌≤◌, ◌∷◌, [], ℕ, true, List, nat_lt, refl, arith}
use Rattle.std.specs.List.{list_all}
use Rattle.std.proofs.lemmas.Bool.{and_from, and_parts, lt-ltb, ltb-true}
use Rattle.irig_saved.proofs.Cuts.{IsWord, AreWords}

-- each byte is above one
abbrev pub IsAbove : ℕ → List ℕ → Type 0
IsAbove c w = list_all (λ b. nat_lt c b) w ≡ true

-- and so above a lower one
pub lower : (c d : ℕ) (w : List ℕ) → d ≤ c → IsAbove c w → IsAbove d w
lower c d [] less h = refl
lower c d (b ∷ bs) less h =
    let p = and_parts (nat_lt c b) (list_all (λ x. nat_lt c x) bs) h in
    let above : c < b = ltb-true c b p.0 in
    and_from (nat_lt d b) (list_all (λ x. nat_lt d x) bs) (lt-ltb d b (omega (arith, less, above))) (lower c d bs less p.1)

-- no byte of the word is a dollar or below
abbrev pub IsPlain : List ℕ → Type 0
IsPlain w = IsAbove 36 w

abbrev pub ArePlain : List (List ℕ) → Type 0
ArePlain [] = Unit {0}
ArePlain (w ∷ ws) = IsPlain w × ArePlain ws

pub plain_is_word : (w : List ℕ) → IsPlain w → IsWord w
plain_is_word w h = lower 36 32 w (omega arith) h

pub plain_are_words : (ws : List (List ℕ)) → ArePlain ws → AreWords ws
plain_are_words [] h = tt
plain_are_words (w ∷ ws) h = (plain_is_word w h.0, plain_are_words ws h.1)
