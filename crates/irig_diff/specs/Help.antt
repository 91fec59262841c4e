-- What is printed if the words ask for help. This project's own.
use Rattle.std.specs.Prelude.{ℕ, List, ◌++◌, codes}

abbrev pub help_text : List ℕ
help_text = codes "Usage: irig_diff [OPTIONS] <BEFORE> <AFTER>\n\nArguments:\n"
    ++ codes "  <BEFORE>  the dump of the track before\n"
    ++ codes "  <AFTER>   the dump of the track after\n\nOptions:\n"
    ++ codes "      --wire <NAME>          the wire of BEFORE\n"
    ++ codes "      --wire-after <NAME>    the wire of AFTER\n"
    ++ codes "      --from <TIME>          in microseconds, is the new 0: 0\n"
    ++ codes "      --to <TIME>            in microseconds, ends the part that is read\n"
    ++ codes "      --frames               show in comments what the lines do to the frames\n"
    ++ codes "      --format <FORMAT>      A, B, E or G: B\n"
    ++ codes "      --expression <NUMBER>  of the format: 2\n"
    ++ codes "  -h, --help                 Print help\n"
