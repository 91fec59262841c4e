-- The command line: seven options, two flags and the track. This project's own.
use Rattle.std.specs.Prelude.{codes, List, [], ◌∷◌, None}
use Rattle.clap.specs.Words.{App, Rule}
use Rattle.irig_words.specs.Arguments.{command_with, flag, needed, option, repeated}

-- which part of which wire is read, and in which format; by what repairs are judged besides:
-- whether frames may move, and other recordings; what is written, and the track
abbrev pub the_rules : List Rule
the_rules =
    option (codes "wire") None ∷ option (codes "from") None ∷ option (codes "to") None
    ∷ option (codes "format") None ∷ option (codes "expression") None
    ∷ flag (codes "moved") ∷ repeated (codes "with")
    ∷ option (codes "out") None ∷ flag (codes "save") ∷ needed (codes "TRACK") ∷ []

-- the command line of the program
abbrev pub the_command : App
the_command = command_with (codes "irig_guard") the_rules
