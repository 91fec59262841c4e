-- The command line: six options, a flag and two paths. This project's own.
use Rattle.std.specs.Prelude.{codes, List, [], ◌∷◌, None}
use Rattle.clap.specs.Words.{App, Rule}
use Rattle.irig_words.specs.Arguments.{command_with, flag, needed, option}

-- which part of which wires is read, how frames are shown, the dump before and the dump after
abbrev pub the_rules : List Rule
the_rules =
    option (codes "wire") None ∷ option (codes "wire-after") None
    ∷ option (codes "from") None ∷ option (codes "to") None
    ∷ flag (codes "frames") ∷ option (codes "format") None ∷ option (codes "expression") None
    ∷ needed (codes "BEFORE") ∷ needed (codes "AFTER") ∷ []

-- the command line of the program
abbrev pub the_command : App
the_command = command_with (codes "irig_diff") the_rules
