-- That a line asks for one command at most. This project's own.
use Rattle.std.specs.Prelude.{◌≡◌, ℕ, List}
use Rattle.irig_lines.specs.{Grammar.Means, declared.command.Command.Command}

-- two commands that a line asks for are the same
abbrev pub OneCommand : Type 0
OneCommand = (line : List ℕ) (one other : Command) → Means one line → Means other line
    → one ≡ other
