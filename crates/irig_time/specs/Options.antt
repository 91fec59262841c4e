-- The command line: its options and the track. This project's own.
use Rattle.std.specs.Prelude.{codes, List, [], ◌∷◌, None}
use Rattle.clap.specs.Words.{App, Rule}
use Rattle.irig_words.specs.Arguments.{command_with, flag, needed, option}

-- which part of the dump is read, and how; where the recorder's time is in a line; what the header
-- is, and how a time is written; which frames are taken, and what is printed of lines without a
-- time, and of bounds; what of the track is listed; where all goes, whether what was done is said,
-- and the track
abbrev pub the_rules : List Rule
the_rules =
    option (codes "wire") None ∷ option (codes "from") None ∷ option (codes "to") None
    ∷ option (codes "format") None ∷ option (codes "expression") None
    ∷ option (codes "unit") None ∷ option (codes "offset") None
    ∷ option (codes "column") None ∷ option (codes "comma") None
    ∷ option (codes "header") None ∷ option (codes "name") None
    ∷ option (codes "year") None ∷ option (codes "form") None
    ∷ flag (codes "alone") ∷ flag (codes "why") ∷ flag (codes "bound")
    ∷ option (codes "within") None
    ∷ flag (codes "table") ∷ flag (codes "holes") ∷ flag (codes "json")
    ∷ option (codes "out") None ∷ flag (codes "quiet") ∷ needed (codes "TRACK") ∷ []

-- the command line of the program
abbrev pub the_command : App
the_command = command_with (codes "irig_time") the_rules
