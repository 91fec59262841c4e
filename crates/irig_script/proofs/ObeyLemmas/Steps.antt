-- What a reply to a command writes.
use Rattle.std.proofs.Common.{◌≡◌, ◌∷◌, [], List, ℕ, length, refl}
use Rattle.irig_script.specs.{Obey.Desk.IsQuiet, Obey.Desk.failures_of, Obey.Replies.texts_put, Obey.Seen.numbers_of, declared.print.reply.Reply.Reply}
use Rattle.irig_text.specs.Shelved.{Shelved, Puts}
use Rattle.irig_script.specs.declared.print.reply.Reply.TheVariants as told
use Rattle.irig_script.proofs.ObeyLemmas.Desks.{puts_none}

-- a quiet reply writes nothing
pub quiet_puts : (shelf : Shelved) (texts : List (List ℕ)) (r : Reply) → IsQuiet r → Puts shelf shelf (texts_put texts r) (failures_of r)
quiet_puts shelf texts (told.Written n) q = absurd q
quiet_puts shelf texts told.WriteFailed q = absurd q
quiet_puts shelf texts _ q = puts_none shelf

-- and is the number of none
pub quiet_number : (texts : List (List ℕ)) (r : Reply) → IsQuiet r → length (texts_put texts r) ≡ numbers_of r
quiet_number texts (told.Written n) q = absurd q
quiet_number texts _ q = refl

-- the number of one text
pub one_number : (text : List ℕ) (r : Reply) → length (texts_put (text ∷ []) r) ≡ numbers_of r
one_number text (told.Written n) = refl
one_number text _ = refl
