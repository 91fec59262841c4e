-- What a command asks of a session, as a function of the state before it and of its cursor. This
-- project's own.
use Rattle.std.specs.Prelude.{ℕ, Some, None, if◌then◌else◌}
use Rattle.irig_codes.specs.Format.{is_permitted}
use Rattle.irig_journal.specs.Machine.{Kept}
use Rattle.irig_edit.specs.declared.session.refusal.Refusal.TheVariants.{BadExpression}
use Rattle.irig_edit.specs.{Session.Calls.Call, Session.Calls.Edit, State.State.State}
use Rattle.irig_script.specs.Obey.PulseNumbers.{number_at, first_of, last_of, join_last_of, time_of}
use Rattle.irig_script.specs.Obey.Replies.{format, listed}
use Rattle.irig_script.specs.declared.print.reply.Reply.{Reply}
use Rattle.irig_lines.specs.declared.command.Command.{Command}
use Rattle.irig_lines.specs.declared.command.Command.TheVariants as command
use Rattle.irig_script.specs.declared.print.reply.Reply.TheVariants as told

-- a call of the session; a pulse that the cursor goes to and that is listed; a reply, with which
-- nothing changes; that the dump is written, or the saved text; or that the script ends
pub data Asked : Type 0 where
  Called : Call → Asked
  Shown : ℕ → Asked
  Told : Reply → Asked
  Dumped : Asked
  Saved : Asked
  Ended : Asked

-- an edit
abbrev pub edited : Edit → Asked
edited edit = Called (Call.Make edit)

-- what a command asks for
abbrev pub asked : Command → Kept State → Asked
asked command.Nothing m = Told told.Silent
asked (command.Show a) m = Shown (number_at a m)
asked (command.List r) m = Told (listed (first_of r m) (last_of r m) m.state)
asked (command.Delete r) m = edited (Edit.Delete (first_of r m) (last_of r m))
asked (command.Shift r d) m = edited (Edit.Shift (first_of r m) (last_of r m) d)
asked (command.Join r) m = edited (Edit.Join (first_of r m) (join_last_of r m))
asked (command.Split a s t) m = edited (Edit.Split (number_at a m) (time_of s m) (time_of t m))
asked (command.Force a e) m = edited (Edit.Force (number_at a m) e)
asked (command.Insert s t) m = edited (Edit.Insert (time_of s m) (time_of t m))
asked (command.Invert s t) m = edited (Edit.Invert (time_of s m) (time_of t m))
asked (command.Regen s frames moment control) m =
    edited (Edit.Regen (time_of s m) frames moment control)
asked (command.Format kind n) m =
    if is_permitted kind n
    then edited (Edit.SetFormat (format kind n)) else Told (told.Refused BadExpression)
asked (command.Mark letter t) m = edited (Edit.SetMark letter (Some (time_of t m)))
asked (command.Unmark letter) m = edited (Edit.SetMark letter None)
asked command.Undo m = Called Call.Undo
asked command.Redo m = Called Call.Redo
asked command.Begin m = Called Call.Begin
asked command.End m = Called Call.End
asked command.Abort m = Called Call.Abort
asked command.Frames m = Told told.Frames
asked command.Marks m = Told told.Marks
asked command.Info m = Told told.Info
asked command.Write m = Dumped
asked command.Save m = Saved
asked command.Quit m = Ended
