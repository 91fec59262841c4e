-- What each command is for. This project's own.
use Rattle.irig_lines.specs.{declared.command.Command.Command, declared.purpose.Purpose.Purpose}
use Rattle.irig_lines.specs.declared.command.Command.TheVariants as command
use Rattle.irig_lines.specs.declared.purpose.Purpose.TheVariants as purpose

-- each command is named, so that one that is added to the language has to be
abbrev pub purpose_of : Command → Purpose
purpose_of command.Nothing = purpose.Nothing
purpose_of (command.Delete r) = purpose.Edit
purpose_of (command.Shift r d) = purpose.Edit
purpose_of (command.Join r) = purpose.Edit
purpose_of (command.Split a s t) = purpose.Edit
purpose_of (command.Force a e) = purpose.Edit
purpose_of (command.Insert s t) = purpose.Edit
purpose_of (command.Invert s t) = purpose.Edit
purpose_of (command.Regen s frames moment control) = purpose.Edit
purpose_of (command.Mark letter t) = purpose.Mark
purpose_of (command.Unmark letter) = purpose.Mark
purpose_of (command.Format kind n) = purpose.Format
purpose_of (command.Show a) = purpose.Question
purpose_of (command.List r) = purpose.Question
purpose_of command.Frames = purpose.Question
purpose_of command.Marks = purpose.Question
purpose_of command.Info = purpose.Question
purpose_of command.Undo = purpose.Steps
purpose_of command.Redo = purpose.Steps
purpose_of command.Begin = purpose.Steps
purpose_of command.End = purpose.Steps
purpose_of command.Abort = purpose.Steps
purpose_of command.Write = purpose.Text
purpose_of command.Save = purpose.Text
purpose_of command.Quit = purpose.End
