-- The command line: its options and the track. This project's own.
use Rattle.std.specs.Prelude.{codes, List, [], ◌∷◌, None}
use Rattle.clap.specs.Words.{App, Rule}
use Rattle.irig_words.specs.Arguments.{command_with, flag, needed, option}

-- which part of the dump is read, and how; what is printed, and the dump
abbrev pub the_rules : List Rule
the_rules =
    option (codes "wire") None ∷ option (codes "from") None ∷ option (codes "to") None
    ∷ option (codes "format") None ∷ option (codes "expression") None
    ∷ flag (codes "sure") ∷ flag (codes "json") ∷ needed (codes "TRACK") ∷ []

-- the command line of the program
abbrev pub the_command : App
the_command = command_with (codes "irig_explain") the_rules
