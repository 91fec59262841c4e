-- What is printed if the words ask for help. This project's own.
use Rattle.std.specs.Prelude.{ℕ, List, ◌++◌, codes}

abbrev pub help_text : List ℕ
help_text = codes "Usage: irig_ed [OPTIONS] <TRACK>\n\nArguments:\n"
    ++ codes "  <TRACK>  the dump; commands come on standard input\n\nOptions:\n"
    ++ codes "      --wire <NAME>          the wire of the dump\n"
    ++ codes "      --from <TIME>          in microseconds, is the new 0: 0\n"
    ++ codes "      --to <TIME>            in microseconds, ends the part that is read\n"
    ++ codes "      --format <FORMAT>      B, if not given [possible values: A, B, E, G]\n"
    ++ codes "      --expression <NUMBER>  2, if not given [possible values: 0, 1, 2, 3, 4, 5,"
    ++ codes " 6, 7]\n"
    ++ codes "      --out <PATH>           what `write` and `save` write, if not TRACK\n"
    ++ codes "  -h, --help                 Print help\n"
