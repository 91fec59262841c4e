-- What the session replies to a command: one step of the machine of whole states. This project's
-- own.
use Rattle.std.specs.Prelude.{◌≡◌}
use Rattle.irig_edit.specs.{Saved.SavedSession.saved_text, Session.Session.work_in}
use Rattle.irig_script.specs.Obey.Asked.Asked.{Called, Shown, Told, Dumped, Saved, Ended}
use Rattle.irig_script.specs.Obey.Machine.{Machine, present_in}
use Rattle.irig_script.specs.Obey.Replies.{Calls, Shows, Writes, dump_text}
use Rattle.irig_script.specs.{Obey.Asked.Asked, Obey.Asked.asked, declared.print.reply.Reply.Reply}
use Rattle.irig_lines.specs.declared.command.Command.{Command}

-- the session may give this reply to what is asked, and go on to new
abbrev pub Gives : Asked → Machine → Reply → Machine → Type 0
Gives (Called call) old reply new = Calls call old reply new
Gives (Shown i) old reply new = Shows i old reply new
Gives (Told answer) old reply new = (reply ≡ answer) × (new ≡ old)
Gives Dumped old reply new = Writes (dump_text old) reply × (new ≡ old)
Gives Saved old reply new = Writes (saved_text (work_in old)) reply × (new ≡ old)
Gives Ended old reply new = ⊥

-- the session may give this reply to this command, and go on to new
abbrev pub Obeys : Command → Machine → Reply → Machine → Type 0
Obeys c old reply new = Gives (asked c (present_in old)) old reply new
