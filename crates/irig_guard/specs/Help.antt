-- What is printed if the words ask for help. This project's own.
use Rattle.std.specs.Prelude.{ℕ, List, ◌++◌, codes}

abbrev pub help_text : List ℕ
help_text = codes "Usage: irig_guard [OPTIONS] <TRACK>\n\nArguments:\n"
    ++ codes "  <TRACK>  the dump; repairs come on standard input\n\nOptions:\n"
    ++ codes "      --wire <NAME>          the wire of the dump\n"
    ++ codes "      --from <TIME>          in microseconds, is the new 0: 0\n"
    ++ codes "      --to <TIME>            in microseconds, ends the part that is read\n"
    ++ codes "      --format <FORMAT>      A, B, E or G: B\n"
    ++ codes "      --expression <NUMBER>  of the format: 2\n"
    ++ codes "      --moved                frames that are fine may move, in their order\n"
    ++ codes "      --with <OTHER>         another recording of the same code\n"
    ++ codes "      --out <PATH>           where the mended track is written\n"
    ++ codes "      --save                 write the journal with the track\n"
    ++ codes "  -h, --help                 Print help\n"
