-- What the session answers to a line of a script. This project's own.
use Rattle.std.specs.Prelude.{◌≡◌, ◌<◌, ◌≤◌, ◌⊎◌, ℕ, List, [], ◌∷◌, length}
use Rattle.irig_edit.specs.{Saved.SavedSession.saved_text, Session.Session.work_in}
use Rattle.irig_script.specs.Print.Printed.{Answer, reply_text}
use Rattle.irig_script.specs.declared.print.reply.Reply.TheVariants.{BadLine, LineTooLong}
use Rattle.irig_script.specs.{Obey.Machine.Machine, Obey.Obeying.Obeys, Obey.Replies.dump_text}
use Rattle.irig_script.specs.{Obey.Replies.texts_put, declared.print.reply.Reply.Reply}
use Rattle.irig_lines.specs.{Grammar.Means, declared.command.Command.Command}
use Rattle.irig_lines.specs.declared.command.Command.TheVariants as command

-- the line is too long, which is reported before anything else of it
abbrev pub IsTooLong : Machine → List ℕ → Reply → List (List ℕ) → Machine → Type 0
IsTooLong old line reply texts new =
    (1000 < length line) × (reply ≡ LineTooLong) × (texts ≡ []) × (new ≡ old)

-- the line is not valid
abbrev pub IsBad : Machine → List ℕ → Reply → List (List ℕ) → Machine → Type 0
IsBad old line reply texts new =
    (length line ≤ 1000) × ((command : Command) → Means command line → ⊥)
    × (reply ≡ BadLine) × (texts ≡ []) × (new ≡ old)

-- the texts that a command writes
abbrev pub texts_of : Command → Machine → List (List ℕ)
texts_of command.Write m = dump_text m ∷ []
texts_of command.Save m = saved_text (work_in m) ∷ []
texts_of _ m = []

-- the line means a command, to which the session may give this reply, and write these texts
abbrev pub IsObeyedAs : Machine → List ℕ → Reply → List (List ℕ) → Machine → Type 0
IsObeyedAs old line reply texts new =
    (length line ≤ 1000)
    × ((command : Command) × Means command line × Obeys command old reply new
    × (texts ≡ texts_put (texts_of command old) reply))

-- the session may give this reply to this line, and write these texts
abbrev pub Step : Machine → List ℕ → Reply → List (List ℕ) → Machine → Type 0
Step old line reply texts new = IsTooLong old line reply texts new
    ⊎ (IsBad old line reply texts new ⊎ IsObeyedAs old line reply texts new)

-- the session may give this answer to this line: it prints what its reply does as all is then
abbrev pub Answered : Machine → List ℕ → Answer → List (List ℕ) → Machine → Type 0
Answered old line answer texts new =
    Step old line answer.reply texts new × (answer.text ≡ reply_text new answer.reply)
