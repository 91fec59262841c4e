-- Whether one of two times is given, wherever its text lies in memory.
use Rattle.std.proofs.Common.{◌≡◌, ◌||◌, ℕ, true, false, List, Option, Some, None, refl}
use Rattle.std.specs.Prelude.{is_some}
use denote.Ref.{Bor}
use Rattle.irig_words.specs.{Formats.given, Windows.is_given}

-- one of them is
pub given_one : (from to : Option (Bor (List ℕ))) → (is_some from || is_some to) ≡ true → is_given (given from) (given to) ≡ true
given_one (Some text) to is = refl
given_one None (Some text) is = refl
given_one None None is = is

-- neither is
pub given_none : (from to : Option (Bor (List ℕ))) → (is_some from || is_some to) ≡ false → (given from ≡ None) × (given to ≡ None)
given_none (Some text) to is = absurd (cc is)
given_none None (Some text) is = absurd (cc is)
given_none None None is = (refl, refl)
