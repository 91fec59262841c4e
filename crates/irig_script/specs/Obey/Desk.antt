-- What lies round a session: what was printed, the texts written to the shelf, how often it failed,
-- and what a witness saw. And the status that answers make. This project's own.
use Rattle.std.specs.Prelude.{◌≡◌, ◌+◌, ℕ, Bool, true, false, List, [], ◌∷◌, Option, None, IsSome}
use Rattle.std.specs.Prelude.{if◌then◌else◌, length}
use Rattle.std.specs.Io.KnownBytes.{Appends}
use Rattle.irig_script.specs.declared.print.reply.Reply.TheVariants.{Written, Refused, BadLine}
use Rattle.irig_script.specs.declared.print.reply.Reply.TheVariants.{LineTooLong, WriteFailed}
use Rattle.irig_script.specs.declared.obey.status.Status.{Status}
use Rattle.irig_script.specs.declared.obey.status.Status.TheVariants.{SomeRefused}
use Rattle.irig_script.specs.Obey.Seen.{AreSeen, numbers_in}
use Rattle.irig_script.specs.Print.Screen.{Shown, Sight, shown}
use Rattle.irig_script.specs.{Print.Printed.Answer, declared.print.reply.Reply.Reply}
use Rattle.irig_text.specs.Shelved.{GrowsBy, Shelved, Puts}

-- how many failures of the shelf a reply reports
abbrev pub failures_of : Reply → ℕ
failures_of WriteFailed = 1
failures_of _ = 0

-- a reply that reports no write, and no failure of the shelf
abbrev pub IsQuiet : Reply → Type 0
IsQuiet (Written count) = ⊥
IsQuiet WriteFailed = ⊥
IsQuiet _ = Unit {0}

-- how many some answers do
abbrev pub failures_in : List Answer → ℕ
failures_in [] = 0
failures_in (answer ∷ answers) = failures_of answer.reply + failures_in answers

-- a reply that begins with a question mark
abbrev pub is_refusal : Reply → Bool
is_refusal (Refused why) = true
is_refusal BadLine = true
is_refusal LineTooLong = true
is_refusal WriteFailed = true
is_refusal _ = false

-- the status after these answers
abbrev pub status_after : Status → List Answer → Status
status_after status [] = status
status_after status (answer ∷ answers) =
    status_after (if is_refusal answer.reply then SomeRefused else status) answers

-- what is known of the output, of the shelf, and of what a witness saw of both
pub record Desk : Type 0 where
  pub out : Option (List ℕ)
  pub shelf : Shelved
  pub seen : Option (List Sight)

-- the desk with a screen and a shelf
abbrev pub desk_at : Shown → Shelved → Desk
desk_at screen shelf = record { out = screen.out; shelf = shelf; seen = screen.seen }

-- the desk with an output and a shelf, and no witness
abbrev pub desk : Option (List ℕ) → Shelved → Desk
desk out shelf = desk_at (shown out None) shelf

-- this was printed, while these answers were given these texts were written, one for each number,
-- and each answer was printed after its text was written, as the witness saw
pub record Tells (old new : Desk) (text : List ℕ) (answers : List Answer) (texts : List (List ℕ))
    : Type 0 where
  pub printed : Appends old.out new.out text
  pub put : Puts old.shelf new.shelf texts (failures_in answers)
  pub many : length texts ≡ numbers_in answers
  pub sights : List Sight
  pub seen : GrowsBy old.seen new.seen sights
  pub each : IsSome old.seen → AreSeen old.out old.shelf.texts [] answers texts sights
