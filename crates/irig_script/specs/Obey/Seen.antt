-- What a witness sees before answers are printed. This project's own.
use Rattle.std.specs.Prelude.{ℕ, List, [], ◌∷◌, ◌++◌, ◌+◌, Option, take}
use Rattle.std.specs.Io.KnownBytes.{Appends}
use Rattle.irig_script.specs.declared.print.reply.Reply.{Reply}
use Rattle.irig_script.specs.declared.print.reply.Reply.TheVariants.{Written}
use Rattle.irig_script.specs.{Print.Printed.Answer, Print.Printed.printed, Print.Screen.Sight}
use Rattle.irig_text.specs.Shelved.{GrowsBy}

-- how many texts a reply is the number of
abbrev pub numbers_of : Reply → ℕ
numbers_of (Written count) = 1
numbers_of _ = 0

-- how many some answers are
abbrev pub numbers_in : List Answer → ℕ
numbers_in [] = 0
numbers_in (answer ∷ answers) = numbers_of answer.reply + numbers_in answers

-- all that was printed is what these answers print, and just these texts were written
pub record IsSeen (out : Option (List ℕ)) (shelf : Option (List (List ℕ))) (before : List Answer)
    (texts : List (List ℕ)) (sight : Sight) : Type 0 where
  pub printed : Appends out sight.out (printed before)
  pub put : GrowsBy shelf sight.texts texts

-- After the answers before, each of these was printed after a sight: nothing of it was printed
-- then, and its text was written.
abbrev pub AreSeen : Option (List ℕ) → Option (List (List ℕ)) → List Answer → List Answer
    → List (List ℕ) → List Sight → Type 0
AreSeen out shelf before [] texts [] = Unit {0}
AreSeen out shelf before (answer ∷ answers) texts (sight ∷ sights) =
    IsSeen out shelf before (take (numbers_in (before ++ answer ∷ [])) texts) sight
    × AreSeen out shelf (before ++ answer ∷ []) answers texts sights
AreSeen out shelf before [] texts (sight ∷ sights) = ⊥
AreSeen out shelf before (answer ∷ answers) texts [] = ⊥
